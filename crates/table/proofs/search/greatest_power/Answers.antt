use Rattle.std.proofs.Common.{◌≡◌, ℕ, ◌-◌, ◌*◌, ◌%◌, ◌^◌, ◌<◌, sym, ap, ◌∙◌, arith}
use lib.Count.{count_leading_zeros, leading_top}
use Rattle.std.proofs.lemmas.Nat.{one_shl}
use Rattle.table.specs.Periods.{Power, power_one, power_greatest, greatest_is}
use Rattle.table.proofs.search.greatest_power.Goals as goal

pub returns : goal.returns
returns c =
    let n = c.args.number in
    let z = count_leading_zeros 32 n in
    let t = leading_top 32 n (omega arith) (omega arith) in
    let s = t.1 in
    let e : t.0 ≡ 31 - z = omega arith in
    let short : 31 - z < 64 = omega arith in
    let is : (1 * 2 ^ (31 - z)) % 2 ^ 64 ≡ 2 ^ t.0 = one_shl (31 - z) 64 short ∙ ap (λ (j : ℕ). 2 ^ j) (sym e) in
    let p : Power n ((1 * 2 ^ (31 - z)) % 2 ^ 64) = (t.0, is, t.2, t.3) in
    record { value = power_one n _ _ p (greatest_is n c.requires.least c.requires.most); greatest = power_greatest n _ p }
