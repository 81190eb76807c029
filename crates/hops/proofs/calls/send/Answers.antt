use Rattle.std.proofs.Common.{◌≡◌, ◌+◌, ◌≤◌, get_or, is_some, Some, None, sym, ap, ◌∙◌, subst, arith}
use Rattle.paths.specs.Route.{entered}
use Rattle.paths.specs.Verdicts.{arrival_rule}
use Rattle.scheduler.specs.Meaning.{due}
use Rattle.hops.specs.declared.crossing.Crossing.{Crossing}
use Rattle.hops.proofs.Seen.{some_same}
use Rattle.hops.proofs.TickWhole.{handed_some}
use Rattle.hops.proofs.calls.send.Given as given
use Rattle.hops.proofs.calls.send.Goals as goal
use Rattle.hops.proofs.calls.send.Goals.{After-get}

-- the crossing of the cell's party
crosses : (g : given.Over) (c : After-get g) → c.get.result ≡ Some (c.requires.ready c.in_ok-cell.cell c.in_ok-cell.was).crossing
crosses g c = c.get.ensures.value ∙ (c.requires.ready c.in_ok-cell.cell c.in_ok-cell.was).crosses

pub unwrap-crossing-requires : goal.unwrap-crossing-requires
unwrap-crossing-requires g c = ap is_some (crosses g ((goal.at.unwrap-crossing-requires g c).After-get))

pub header_of-header-requires : goal.header_of-header-requires
header_of-header-requires g c =
    let r = c.requires.ready c.in_ok-cell.cell c.in_ok-cell.was in
    let x : r.crossing ≡ c.unwrap-crossing.result = some_same (crosses g ((goal.at.header_of-header-requires g c).After-get)) c.unwrap-crossing.ensures in
    record {
      slots = omega (arith, r.slots);
      ready = r.eligible;
      timely = subst (λ (x : Crossing). c.args.slot.0 ≤ due c.in_ok-cell.cell.eligible.0 x.bound.0) x r.timely;
    }

pub arrival_of-requires-clause-slots : goal.arrival_of-requires-clause-slots
arrival_of-requires-clause-slots g c = (c.requires.ready c.in_ok-cell.cell c.in_ok-cell.was).slots

pub forward-requires : goal.forward-requires
forward-requires g c =
    let r = c.requires.ready c.in_ok-cell.cell c.in_ok-cell.was in
    let y = c.unwrap-crossing.result in
    let x : r.crossing ≡ y = some_same (crosses g ((goal.at.forward-requires g c).After-get)) c.unwrap-crossing.ensures in
    let h = c.header_of-header.ensures in
    let b = g.P.Path.route c.args.behind.now in
    let d = ap (λ (x : Crossing). x.bound.0) x in
    let p = c.in_ok-cell.cell.party in
    let at : c.in_ok-cell.cell.eligible.0 + r.crossing.bound.0 + c.args.link.0 ≡ c.arrival_of.result.0 + c.header_of-header.result.ahead.0 = omega (arith, h.ahead, d, c.arrival_of.ensures, y.bounded) in
    record {
      party = subst (λ p. p ≤ 15) (sym h.party) r.party;
      ahead = omega (arith, h.ahead, r.eligible, y.prompt);
      consent = sym (λ i. arrival_rule b (b.contracts (sym h.party i)) (sym h.party i) (at i)) ∙ r.consent;
    }

pub returns : goal.returns
returns g c =
    let h = c.header_of-header.ensures in
    let b = g.P.Path.route c.args.behind.now in
    let x = c.unwrap-crossing.result in
    let cell = c.in_ok-cell.cell in
    let at : c.arrival_of.result.0 + c.header_of-header.result.ahead.0 ≡ cell.eligible.0 + x.bound.0 + c.args.link.0 = omega (arith, h.ahead, c.arrival_of.ensures, x.bounded) in
    handed_some (λ p. get_or c.args.crossings.now.parties.entries p None) c.args.link.0 c.args.slot.0 c.args.served cell x c.header_of-header.result b (g.P.Path.route c.forward.new.behind)
    c.in_ok-cell.was (sym c.get.ensures.value ∙ c.unwrap-crossing.ensures) (record { party = h.party; ahead = h.ahead; label = h.label })
    (c.forward.ensures ∙ (λ i. entered b (h.party i) (at i) (h.label i)))
