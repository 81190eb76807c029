-- Turns and who owns them. Slot k has turn k mod 128; a turn has one owner, a party, or none.
use Rattle.std.specs.Prelude.{◌≡◌, ℕ, zero, suc, ◌%◌, ◌^◌, ◌<◌, ◌≤◌, min, Bool, true, false, cond, not, is_some, Some, None, Option, ◌==◌, nat_le, nat_lt}
use Rattle.cells.specs.declared.faults.Cause.{Cause}
use Rattle.cells.specs.declared.faults.Cause.TheVariants.{NoFreeOffset}
use Rattle.scheduler.specs.Meaning.{some_below}

-- the turn of a slot
abbrev pub turn : ℕ → ℕ
turn k = k % 128

-- the greatest power of two not above n, of 1, 2, 4, .. up to 2 ^ l
abbrev pub power_to : ℕ → ℕ → ℕ
power_to zero n = 1
power_to (suc l) n = cond (nat_le (2 ^ suc l) n) (2 ^ suc l) (power_to l n)

-- the greatest power of two not above n, for n from 1 to 128
unfoldable pub greatest_power : ℕ → ℕ
greatest_power n = power_to 7 n

-- the period of a contract: the greatest power of two above neither its spacing nor its bound
abbrev pub period : ℕ → ℕ → ℕ
period s d = greatest_power (min s d)

-- p is the greatest power of two not above n
pub record Greatest (n p : ℕ) : Type 0 where
  pub power : (l : ℕ) × (p ≡ 2 ^ l)
  pub within : p ≤ n
  pub greatest : (l : ℕ) → 2 ^ l ≤ n → 2 ^ l ≤ p

-- whether k is one of the turns o, o + p, o + 2p and so on below 128
abbrev pub turn_of : ℕ → ℕ → ℕ → Bool
turn_of p o k = cond (nat_lt k 128) (k % p == o) false

-- the turns o, o + p, o + 2p and so on below 128, which have the remainder o by p, have no owner
abbrev pub Free : (ℕ → Option ℕ) → ℕ → ℕ → Type 0
Free owner p o = (k : ℕ) → k < 128 → k % p ≡ o → is_some (owner k) ≡ false

-- one of them has an owner
abbrev pub Taken : (ℕ → Option ℕ) → ℕ → ℕ → Type 0
Taken owner p o = (k : ℕ) × (k < 128) × (k % p ≡ o) × (is_some (owner k) ≡ true)

-- what a search for the least free offset below the period finds
abbrev pub Found : (ℕ → Option ℕ) → ℕ → Option ℕ → Type 0
Found owner p None = (o : ℕ) → o < p → Taken owner p o
Found owner p (Some o) = (o < p) × Free owner p o × ((q : ℕ) → q < o → Taken owner p q)

-- whether an offset o under the period p is free
unfoldable pub free : (ℕ → Option ℕ) → ℕ → ℕ → Bool
free owner p o = not (some_below 128 (λ k. cond (turn_of p o k) (is_some (owner k)) false))

-- k, where the test is true and nothing was found before
abbrev pub or_here : Option ℕ → Bool → ℕ → Option ℕ
or_here None b k = cond b (Some k) None
or_here (Some o) b k = Some o

-- the least k below n that passes the test
abbrev pub least_below : ℕ → (ℕ → Bool) → Option ℕ
least_below zero f = None
least_below (suc n) f = or_here (least_below n f) (f n) n

-- the least free offset below the period
abbrev pub least_free : (ℕ → Option ℕ) → ℕ → Option ℕ
least_free owner p = least_below p (free owner p)

-- without a free offset a contract is refused
abbrev pub offset_verdict : Option ℕ → Option Cause
offset_verdict None = Some NoFreeOffset
offset_verdict (Some o) = None

-- the turns of the offset o get the owner q, and no others change
abbrev pub assigned : (ℕ → Option ℕ) → ℕ → ℕ → ℕ → ℕ → Option ℕ
assigned owner p o q k = cond (turn_of p o k) (Some q) (owner k)

-- the same of the offset that was found; without one nothing changes
abbrev pub assigned_at : (ℕ → Option ℕ) → ℕ → Option ℕ → ℕ → ℕ → Option ℕ
assigned_at owner p None q = owner
assigned_at owner p (Some o) q = assigned owner p o q

-- whether the owner is the party q
abbrev pub is_party : ℕ → Option ℕ → Bool
is_party q None = false
is_party q (Some r) = r == q

-- the turns of the party q are given back, and no others change
abbrev pub released : (ℕ → Option ℕ) → ℕ → ℕ → Option ℕ
released owner q k = cond (is_party q (owner k)) None (owner k)

-- no turn has an owner
abbrev pub no_owner : ℕ → Option ℕ
no_owner k = None
