-- That a hop's parts agree is known with some proof, so with one.
use Rattle.std.proofs.Common.{ℕ, ◌+◌, List, is_some, Some, None, Option}
use Rattle.std.proofs.Math.Logic.{∥∥₁_elim, ∥∥₁_map}
use Rattle.std.proofs.Props.{props}
use Rattle.cells.specs.declared.times.Slot.{Slot}
use Rattle.scheduler.specs.declared.terms.Contract.{Contract}
use Rattle.paths.specs.Route.{Terms}
use Rattle.paths.proofs.Opened.{lawful_opened, either_opened}
use Rattle.hops.specs.declared.crossing.Crossing.{Crossing}
use Rattle.hops.specs.Joined.{Parts, Side, side, seen, joined}
use Rattle.hops.specs.Level.{Tied, last_of, Passed, Unused, Put, Latest, Settled, Agrees, Sound}

tied_opened : (g : ℕ) (gs : List ℕ) (x : Option Crossing) (c : Option Contract) (t : Option Terms) → ∥ Tied g gs x c t ∥₁ → Tied g gs x c t
tied_opened g gs None c t s = ∥∥₁_elim s (hlevel props) (λ t. t)
tied_opened g gs (Some x) None t s = ∥∥₁_elim s (hlevel props) (λ t. t)
tied_opened g gs (Some x) (Some c) None s = ∥∥₁_elim s (hlevel props) (λ t. t)
tied_opened g gs (Some x) (Some c) (Some t) s = ∥∥₁_elim s (hlevel props) (λ t. t)

passed_opened : (y : Side) (x : Crossing) (a : ℕ) → ∥ Passed y x a ∥₁ → Passed y x a
passed_opened y x a s = record {
  cells = λ v z e. ∥∥₁_elim s (hlevel props) (λ p. p.cells v z e);
  last = λ u e. ∥∥₁_elim s (hlevel props) (λ p. p.last u e);
  known = either_opened (is_some (seen y (a + x.constant.0))) (last_of y.terms) (a + x.constant.0) (∥∥₁_map s (λ p. p.known));
}

unused_opened : (y : Side) → ∥ Unused y ∥₁ → Unused y
unused_opened y s = ∥∥₁_elim s (hlevel props) (λ u. u)

put_opened : (y : Side) (x : Crossing) (o : Option Slot) → ∥ Put y x o ∥₁ → Put y x o
put_opened y x None s = unused_opened y s
put_opened y x (Some t) s = (passed_opened y x t.0 (∥∥₁_map s (λ p. p.0)), λ e l i. ∥∥₁_elim s (hlevel props) (λ p. p.1 e l i))

latest_opened : (y : Side) (x : Crossing) (o : Option Slot) → ∥ Latest y x o ∥₁ → Latest y x o
latest_opened y x None s = (unused_opened y (∥∥₁_map s (λ l. l.0)), λ e. ∥∥₁_elim s (hlevel props) (λ l. l.1 e))
latest_opened y x (Some t) s = (passed_opened y x t.0 (∥∥₁_map s (λ l. l.0)), λ e l i. ∥∥₁_elim s (hlevel props) (λ p. p.1 e l i))

settled_opened : (y : Side) (x : Crossing) (c : Contract) → ∥ Settled y x c ∥₁ → Settled y x c
settled_opened y x c s = record {
  apart = λ e l i. ∥∥₁_elim s (hlevel props) (λ z. z.apart e l i);
  put = put_opened y x c.last (∥∥₁_map s (λ z. z.put));
  latest = latest_opened y x x.trail.latest (∥∥₁_map s (λ z. z.latest));
}

agrees_opened : (n g : ℕ) (gs : List ℕ) (y : Side) → ∥ Agrees n g gs y ∥₁ → Agrees n g gs y
agrees_opened n g gs y s = record {
  tied = tied_opened g gs y.crossing y.contract y.terms (∥∥₁_map s (λ a. a.tied));
  window = λ e l i. ∥∥₁_elim s (hlevel props) (λ a. a.window e l i);
  idle = λ i e. ∥∥₁_elim s (hlevel props) (λ a. a.idle i e);
  settled = λ x c i j. settled_opened y x c (∥∥₁_map s (λ a. a.settled x c i j));
}

pub sound_opened : (n : ℕ) (k : Parts) → ∥ Sound n k ∥₁ → Sound n k
sound_opened n k s = record {
  days = ∥∥₁_elim s (hlevel props) (λ s. s.days);
  level = record {
    slots = ∥∥₁_elim s (hlevel props) (λ s. s.level.slots);
    numbers = ∥∥₁_elim s (hlevel props) (λ s. s.level.numbers);
    link = ∥∥₁_elim s (hlevel props) (λ s. s.level.link);
    agrees = λ p. agrees_opened k.behind.slot k.link k.behind.links (side k p) (∥∥₁_map s (λ s. s.level.agrees p));
    lawful = lawful_opened (joined k) (∥∥₁_map s (λ s. s.level.lawful));
  };
}
