use Rattle.std.proofs.Common.{◌≡◌, sym, ap, ◌∙◌, rules}
use Rattle.paths.specs.Trails.{still}
use Rattle.paths.specs.Verdicts.{holds_of}
use Rattle.calendar.specs.Days.{now_of}
use Rattle.hops.specs.Hops.{parts_of}
use Rattle.hops.proofs.Answering.{on_match}
use Rattle.hops.proofs.Opened.{sound_opened}
use Rattle.hops.proofs.Presence.{holds_crossed, holds_behind}
use Rattle.hops.proofs.hop.Hop.holds_cell.Goals as goal

pub returns : goal.returns
returns g c =
    let h = c.args.self.now in
    let k = parts_of g.S.Scheduler.meaning g.P.Path.route h in
    let s = sound_opened (now_of h.waiting) k h.sound in
    let lev = s.level in
    on_match _ _ c.get.result c.map_or_else.ensures
    (λ e n. (let r : c.map_or_else.result ≡ holds_of (g.P.Path.route h.behind) c.args.party = search rules in r ∙ sym (holds_behind k lev c.args.party (g.met.P.Path.lawful h.behind) (sym c.get.ensures.value ∙ e))))
    (λ x e m. (let r : c.map_or_else.result ≡ still x.trail.latest x.constant.0 (now_of h.waiting) = search rules in r ∙ ap (still x.trail.latest x.constant.0) s.days ∙ sym (holds_crossed k lev c.args.party x (sym c.get.ensures.value ∙ e))))
