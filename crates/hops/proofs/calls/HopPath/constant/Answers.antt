use Rattle.std.proofs.Common.{◌≡◌, ℕ, ◌∷◌, Some, sym, ap, ◌∙◌, rules}
use Rattle.calendar.specs.Days.{now_of}
use Rattle.cells.specs.declared.times.Span.{Span}
use Rattle.paths.specs.Route.{constant_in}
use Rattle.hops.specs.Hops.{parts_of}
use Rattle.hops.specs.Joined.{from_here}
use Rattle.hops.proofs.Answering.{on_match}
use Rattle.hops.proofs.Opened.{sound_opened}
use Rattle.hops.proofs.Seen.{both, constant_here}
use Rattle.hops.proofs.calls.HopPath.constant.Goals as goal

pub returns : goal.returns
returns g c =
    let h = c.args.self.now in
    let k = parts_of g.S.Scheduler.meaning g.P.Path.route h in
    let s = sound_opened (now_of h.waiting) k h.sound in
    let p = c.args.party in
    let gs = k.link ∷ k.behind.links in
    on_match _ _ c.get.result c.map.ensures.cases
    (λ e n. search rules)
    (λ x e m. (
    let is : k.crossings p ≡ Some x = sym c.get.ensures.value ∙ e in
    let b = both k.link k.behind.links x (k.crossings p) (k.sched.contracts p) (k.behind.contracts p) (s.level.agrees p).tied is in
    let r : c.or_else.result ≡ Some x.constant = search rules in
    r ∙ ap (λ (n : ℕ). Some (let t : Span = record { 0 = n } in t)) (sym (constant_here k.link k.behind.links x b.contract b.terms b.ties)) ∙ sym (λ i. constant_in gs (from_here (is i) (b.terms_is i)))))
