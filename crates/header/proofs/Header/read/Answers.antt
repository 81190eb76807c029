use Rattle.std.proofs.Common.{◌≡◌, length, get_or, ltb, IfOk, sym, ap, ◌∙◌, subst, arith, rules}
use Rattle.cells.specs.declared.faults.Cause.TheVariants.{HeaderParty, HeaderAhead}
use Rattle.header.specs.Headers.{bytes_of, checked, header_fault, header_in}
use Rattle.header.specs.declared.Header.{Header}
use Rattle.header.proofs.Six.{six, checked_keeps}
use Rattle.header.proofs.Header.read.Goals as goal

pub returns : goal.returns
returns c =
    let bs = c.args.bytes.now in
    let n : length bs ≡ 6 = search rules in
    let h = header_in bs in
    let got : Header = record { party = get_or bs 0 0; ahead = record { 0 = c.from.result }; label = c.from_be_bytes.result } in
    let same : got ≡ h = λ j. record { party = get_or bs 0 0; ahead = record { 0 = c.from.ensures j }; label = c.from_be_bytes.ensures j } in
    let read = c.checked.ensures ∙ ap (λ g. checked 6 g g) same in
    let fits = six bs n (λ i. omega (arith, c.type_inv.bytes i)) in
    let kept = checked_keeps (ltb 15 h.party) (ltb 127 h.ahead.0) (header_fault HeaderParty h.party) (header_fault HeaderAhead h.party) h (λ g. bytes_of g ≡ bs) fits in
    record {
      value = read ∙ ap (λ k. checked k h h) (sym n);
      back = subst (λ r. IfOk r (λ g. bytes_of g ≡ bs)) (sym read) kept;
    }
