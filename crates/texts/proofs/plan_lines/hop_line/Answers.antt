use Rattle.std.proofs.Common.{rules}
use Rattle.texts.proofs.Links.{link_alone}
use Rattle.texts.proofs.plan_lines.hop_line.Goals as goal

pub returns-in_err-link : goal.returns-in_err-link
returns-in_err-link c = let e = link_alone c.in_ok-kind.kind c.in_ok-word.link.now in search rules

pub returns-then-link-gt-LINK_MAX : goal.returns-then-link-gt-LINK_MAX
returns-then-link-gt-LINK_MAX c = let e = link_alone c.in_ok-kind.kind c.in_ok-word.link.now in search rules

pub returns : goal.returns
returns c = let e = link_alone c.in_ok-kind.kind c.in_ok-word.link.now in search rules
