use Rattle.std.proofs.Common.{◌≡◌, ◌≤◌, leb, length, true, vec_items, sym, rules, tests}
use Rattle.std.proofs.lemmas.Iterator.{YieldsList-from_slice}
use Rattle.std.proofs.lemmas.Iterator.Search.{all_from_yields_List}
use Rattle.texts.specs.PlanLines.{terms}
use Rattle.texts.proofs.Terms.{bounds_of, party_made}
use Rattle.texts.proofs.plans.Draft.party_of.Goals as goal

pub eight-requires-clause-small : goal.eight-requires-clause-small
eight-requires-clause-small c =
    sym (all_from_yields_List (λ d. leb d 65535) _ _ true c.if-not-all.ensures.ran (YieldsList-from_slice (bounds_of c.args.all.now) c.iter.ensures.rest) (λ x b q k. search (rules, tests)))

pub returns : goal.returns
returns c =
    let xs = c.args.all.now in
    let hs = vec_items c.args.self.now.hops in
    let two : 2 ≤ length xs = search rules in
    let same : length (bounds_of xs) ≡ length hs = search rules in
    let small : terms (bounds_of xs) ≡ true = sym (all_from_yields_List (λ d. leb d 65535) _ _ true c.if-not-all.ensures.ran (YieldsList-from_slice (bounds_of xs) c.iter.ensures.rest) (λ x b q k. search (rules, tests))) in
    let e = party_made (length hs) xs two same c.if-number-gt-PARTY_MAX.false c.if-spacing-gt-TERM_MAX.false small in
    let b = c.eight.ensures in
    cc
