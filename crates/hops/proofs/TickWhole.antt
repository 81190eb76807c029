-- A whole tick of a hop.
use Rattle.std.proofs.Common.{◌≡◌, ℕ, suc, ◌+◌, ◌<◌, ◌≤◌, cond, eqb, List, length, get_or, set, is_some, Some, None, Option, sym, refl, ap, ◌∙◌, subst, arith}
use Rattle.header.specs.declared.Header.{Header}
use Rattle.scheduler.specs.declared.terms.Cell.{Cell}
use Rattle.scheduler.specs.Laws.{Chosen}
use Rattle.scheduler.specs.Meaning.{Meaning, due, last_slot, stepped}
use Rattle.paths.specs.Route.{Route, MaySend, ticked, names, entered}
use Rattle.paths.specs.Laws.{Lawful}
use Rattle.paths.specs.Verdicts.{Sent}
use Rattle.hops.specs.declared.crossing.Crossing.{Crossing}
use Rattle.hops.specs.Crossed.{Took}
use Rattle.hops.specs.Joined.{Parts, parts, side, joined}
use Rattle.hops.specs.Level.{Level, Agrees, Sound}
use Rattle.hops.specs.Rows.{with_row}
use Rattle.hops.specs.Sent.{Ready, Heads, Handed}
use Rattle.hops.proofs.Seen.{none_some, some_same}
use Rattle.hops.proofs.Sides.{Honest}
use Rattle.hops.proofs.Tables.{set_here, set_there}
use Rattle.hops.proofs.Behind.{put_parts, agrees_put_parts, own-put_parts, crossing_put_parts, uncrossed_put_parts}
use Rattle.hops.proofs.Handover.{stayed, Outcome, joined_after, lawful_after, may_send_here, sent_after}
use Rattle.hops.proofs.Serving.{Chosen_cell, chosen_cell, consents, serve_parts, agrees_served, outcome}

-- the parts z are those of k one slot on, under the send table zs
pub record Ticked (k z : Parts) (old zs : List (Option Header)) : Type 0 where
  pub level : Level z
  pub route : joined z ≡ ticked (joined k) zs
  pub sent : Sent (joined k) old zs

module _ (k : Parts) (lev : Level k) (lb : Lawful k.behind) (ss : List (Option Header)) (xs : ℕ → Option Crossing) (took : (p : ℕ) → Took (k.waits p k.behind.slot) k.behind.slot (k.crossings p) (xs p))
    (hon : Honest (put_parts k lev lb ss xs took).sched) where
  abbrev mid : Parts
  mid = put_parts k lev lb ss xs took

  -- what the scheduler chose can be sent
  pub ready : (c : Cell) → Chosen mid.sched (Some c) → k.behind.slot ≤ last_slot → Ready xs k.link k.behind.slot mid.behind c
  ready c h le =
      let ch = chosen_cell k lev lb ss xs took hon c.party c.eligible.0 c.label h in
      record {
        crossing = ch.crossing;
        crosses = ch.crossing_is;
        party = ch.party;
        slots = le;
        eligible = ch.ready;
        timely = ch.timely;
        consent = consents k lev lb ss xs took hon c.party c.eligible.0 c.label ch;
      }

  -- the parts once the scheduler has served and the path behind is b
  abbrev pub served_parts : Option Cell → Route → Parts
  served_parts c b = record { number = k.number; link = k.link; sched = stepped mid.sched c; waits = mid.waits; crossings = xs; behind = b }

  module _ (old zs : List (Option Header)) (le : k.behind.slot ≤ last_slot) (sent-behind : Sent k.behind old ss) (other : (j : ℕ) → (j ≡ k.number → ⊥) → get_or zs j None ≡ get_or ss j None) where
    beyond : (j : ℕ) → suc k.number ≤ j → get_or ss j None ≡ get_or zs j None
    beyond j h = sym (other j (λ e. omega arith))

    level_of : (z : Parts) → z.sched.slot ≡ z.behind.slot → z.behind.first ≡ k.behind.first → z.number ≡ k.number → z.link ≡ k.link
        → ((q : ℕ) → Agrees z.behind.slot z.link z.behind.links (side z q)) → Lawful (joined z) → Level z
    level_of z s f n l a w = record { slots = s; numbers = f ∙ lev.numbers ∙ ap suc (sym n); link = subst (λ n. n ≤ 63) (sym l) lev.link; agrees = a; lawful = w }

    -- nothing was served
    quiet : get_or zs k.number None ≡ None → Outcome k lev lb ss zs beyond (stepped mid.sched None) mid.waits xs mid.behind.cells
    quiet entry = record {
      same = λ q x c. crossing_put_parts k lev lb ss xs took q x c;
      none = λ q c. uncrossed_put_parts k lev lb ss xs took q c;
      fate = λ q a l x c o. stayed (own-put_parts k lev lb ss xs took q a ∙ o) (ap (λ y. names y k.behind.slot q (due a x.bound.0)) entry);
      stood = λ q a l o. ap is_some (sym (own-put_parts k lev lb ss xs took q a) ∙ o);
      others = λ q v h. refl;
    }

    whole_none : get_or zs k.number None ≡ None → Honest (stepped mid.sched None) → Lawful mid.behind → Ticked k (served_parts None mid.behind) old zs
    whole_none entry hon₂ law = record {
      level = level_of (served_parts None mid.behind) (ap (λ n. n + 1) lev.slots) refl refl refl (agrees_put_parts k lev lb ss xs took)
          (lawful_after k lev lb ss zs beyond (stepped mid.sched None) mid.waits xs mid.behind.cells (quiet entry) le (agrees_put_parts k lev lb ss xs took) (ap (λ n. n + 1) lev.slots) hon₂ law);
      route = joined_after k lev lb ss zs beyond (stepped mid.sched None) mid.waits xs mid.behind.cells (quiet entry);
      sent = sent_after k lev lb old ss zs sent-behind other (λ y e. absurd (none_some entry e));
    }

    whole_some : (c : Cell) → Chosen mid.sched (Some c) → (x : Crossing) (y : Header) → xs c.party ≡ Some x → Heads c x k.behind.slot y → get_or zs k.number None ≡ Some y
        → Honest (stepped mid.sched (Some c)) → Lawful (entered mid.behind c.party (c.eligible.0 + x.bound.0 + k.link) c.label)
        → Ticked k (served_parts (Some c) (entered mid.behind c.party (c.eligible.0 + x.bound.0 + k.link) c.label)) old zs
    whole_some c h x y ex heads entry hon₂ law = subst (λ x'. Lawful (entered mid.behind c.party (c.eligible.0 + x'.bound.0 + k.link) c.label) → Ticked k (served_parts (Some c) (entered mid.behind c.party (c.eligible.0 + x'.bound.0 + k.link) c.label)) old zs) same go law
      where
        p : ℕ
        p = c.party

        ch : Chosen_cell k lev lb ss xs took hon c.party c.eligible.0 c.label
        ch = chosen_cell k lev lb ss xs took hon c.party c.eligible.0 c.label h

        same : ch.crossing ≡ x
        same = some_same ch.crossing_is ex

        ahead : k.behind.slot + y.ahead.0 ≡ due c.eligible.0 ch.crossing.bound.0
        ahead = heads.ahead ∙ ap (λ (x : Crossing). due c.eligible.0 x.bound.0) (sym same)

        out : Outcome k lev lb ss zs beyond (serve_parts k lev lb ss xs took hon c.party c.eligible.0 c.label ch).sched mid.waits xs (serve_parts k lev lb ss xs took hon c.party c.eligible.0 c.label ch).behind.cells
        out = outcome k lev lb ss xs took hon c.party c.eligible.0 c.label ch h y zs heads.party ahead entry beyond

        may : (w : Header) → get_or zs k.number None ≡ Some w → MaySend (joined k) 0 w
        may w e = subst (MaySend (joined k) 0) (some_same entry e) (may_send_here k lev lb c.party c.eligible.0 c.label ch.before y ch.before_is ch.stands ch.ready heads.party heads.label (ahead ∙ ap (due c.eligible.0) ch.same.bound))

        go : Lawful (entered mid.behind c.party (c.eligible.0 + ch.crossing.bound.0 + k.link) c.label) → Ticked k (served_parts (Some c) (entered mid.behind c.party (c.eligible.0 + ch.crossing.bound.0 + k.link) c.label)) old zs
        go law = record {
          level = level_of (served_parts (Some c) (entered mid.behind c.party (c.eligible.0 + ch.crossing.bound.0 + k.link) c.label)) (ap (λ n. n + 1) lev.slots) refl refl refl
              (agrees_served k lev lb ss xs took hon c.party c.eligible.0 c.label ch h)
              (lawful_after k lev lb ss zs beyond _ mid.waits xs _ out le (agrees_served k lev lb ss xs took hon c.party c.eligible.0 c.label ch h) (ap (λ n. n + 1) lev.slots) hon₂ law);
          route = joined_after k lev lb ss zs beyond _ mid.waits xs _ out;
          sent = sent_after k lev lb old ss zs sent-behind other may;
        }

    -- whatever was served
    pub whole : (o : Option Cell) → Chosen mid.sched o → (y : Option Header) (b : Route) → Handed xs k.link k.behind.slot o y mid.behind b → get_or zs k.number None ≡ y → Honest (stepped mid.sched o) → Lawful b → Ticked k (served_parts o b) old zs
    whole None h y b (e, f) entry hon₂ law = subst (λ b. Ticked k (served_parts None b) old zs) (sym f) (whole_none (entry ∙ e) hon₂ (subst Lawful f law))
    whole (Some c) h y b w entry hon₂ law =
        subst (λ b. Ticked k (served_parts (Some c) b) old zs) (sym w.5) (whole_some c h w.0 w.1 w.2 w.4 (entry ∙ w.3) hon₂ (subst Lawful w.5 law))

-- a cell was served, and handed on
pub handed_some : (xs : ℕ → Option Crossing) (g n : ℕ) (o : Option Cell) (c : Cell) (x : Crossing) (y : Header) (b b' : Route) → o ≡ Some c → xs c.party ≡ Some x → Heads c x n y
    → b' ≡ entered b c.party (c.eligible.0 + x.bound.0 + g) c.label → Handed xs g n o (Some y) b b'
handed_some xs g n o c x y b b' e ex h f = subst (λ o. Handed xs g n o (Some y) b b') (sym e) (x, y, ex, refl, h, f)

-- the same, by what each step of a tick answers: n is the calendar's slot, b the path behind after its tick, m the scheduler's meaning once the cells of the slot are put
module _ (k : Parts) (n : ℕ) (snd : Sound n k) (lb : Lawful k.behind) (le : n ≤ last_slot) (old ss : List (Option Header)) (b : Route) (b-is : b ≡ ticked k.behind ss)
    (m : Meaning) (m-is : m ≡ with_row (λ p. k.waits p n) k.sched) (hon : Honest m)
    (xs : ℕ → Option Crossing) (took : (p : ℕ) → Took (k.waits p n) n (k.crossings p) (xs p)) where
  took_now : (p : ℕ) → Took (k.waits p k.behind.slot) k.behind.slot (k.crossings p) (xs p)
  took_now p = subst (λ n. Took (k.waits p n) n (k.crossings p) (xs p)) snd.days (took p)

  row_now : m ≡ with_row (λ p. k.waits p k.behind.slot) k.sched
  row_now = m-is ∙ ap (λ n. with_row (λ p. k.waits p n) k.sched) snd.days

  hon_now : Honest (put_parts k snd.level lb ss xs took_now).sched
  hon_now = subst Honest row_now hon

  le_now : k.behind.slot ≤ last_slot
  le_now = subst (λ n. n ≤ last_slot) snd.days le

  -- what was chosen can be sent
  pub ready_now : (c : Cell) → Chosen m (Some c) → Ready xs k.link n b c
  ready_now c h = subst (λ n. Ready xs k.link n b c) (sym snd.days) (subst (λ b. Ready xs k.link k.behind.slot b c) (sym b-is)
      (ready k snd.level lb ss xs took_now hon_now c (subst (λ m. Chosen m (Some c)) row_now h) le_now))

  -- the hop after the tick
  pub record Final (z : Parts) (n' : ℕ) (zs : List (Option Header)) : Type 0 where
    pub sound : Sound n' z
    pub route : joined z ≡ ticked (joined k) zs
    pub sent : Sent (joined k) old zs

  pub final : Sent k.behind old ss → (w : ℕ → ℕ → Option ℕ) → w ≡ (λ p e. cond (eqb e n) None (k.waits p e)) → (o : Option Cell) → Chosen m o → (m' : Meaning) → m' ≡ stepped m o → Honest m'
      → (y : Option Header) (b' : Route) → Handed xs k.link n o y b b' → Lawful b' → (n' : ℕ) → n' ≡ n + 1 → k.number < length ss
      → Final (parts k.number k.link m' w xs b') n' (set ss k.number y)
  final sent-behind w w-is o ch m' m'-is hon' y b' handed law n' n'-is within = record {
    sound = record { days = n'-is ∙ ap (λ n. n + 1) snd.days ∙ sym (slots_of t.level); level = subst Level (sym same) t.level };
    route = ap joined same ∙ t.route;
    sent = t.sent;
  }
    where
      m_now : m' ≡ stepped (with_row (λ p. k.waits p k.behind.slot) k.sched) o
      m_now = m'-is ∙ ap (λ m. stepped m o) row_now

      handed_now : Handed xs k.link k.behind.slot o y (ticked k.behind ss) b'
      handed_now = subst (λ b. Handed xs k.link k.behind.slot o y b b') b-is (subst (λ n. Handed xs k.link n o y b b') snd.days handed)

      t : Ticked k (served_parts k snd.level lb ss xs took_now hon_now o b') old (set ss k.number y)
      t = whole k snd.level lb ss xs took_now hon_now old (set ss k.number y) le_now sent-behind (λ j r. set_there ss k.number j y None within r)
          o (subst (λ m. Chosen m o) row_now ch) y b' handed_now (set_here ss k.number k.number y None within refl) (subst Honest m_now hon') law

      slots_of : Level (served_parts k snd.level lb ss xs took_now hon_now o b') → b'.slot ≡ k.behind.slot + 1
      slots_of l = sym l.slots ∙ ap (λ n. n + 1) snd.level.slots

      same : parts k.number k.link m' w xs b' ≡ served_parts k snd.level lb ss xs took_now hon_now o b'
      same = λ i. record { number = k.number; link = k.link; sched = m_now i; waits = (w-is ∙ ap (λ n. λ p e. cond (eqb e n) None (k.waits p e)) snd.days) i; crossings = xs; behind = b' }
