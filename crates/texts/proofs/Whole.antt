-- A whole text that was read is the writing of what it says.
use Rattle.std.proofs.Common.{◌≡◌, ℕ, ◌+◌, ◌-◌, ◌<◌, Bool, true, false, cond, eqb, ltb, leb, List, [], ◌∷◌, ◌++◌, length, get_or, take, drop, IfOk, Some, None, Ok, Err, decimal, Option, Result, sym, refl, ap, ◌∙◌, inl, inr, append_assoc, append-nil, arith}
use Rattle.std.proofs.lemmas.List.{flat_map_more, nil_from_length, take_more, take_all, get_or_past}
use Rattle.std.proofs.lemmas.Bool.{and_parts, eqb-true, cases_lt}
use Rattle.std.specs.List.{flat_map}
use Rattle.cells.specs.declared.faults.Fault.{Fault}
use Rattle.cells.specs.declared.faults.Cause.{Cause}
use Rattle.cells.specs.declared.faults.Cause.TheVariants.{NumberOutOfRange, LinePlace}
use Rattle.cells.specs.declared.faults.Layer.{Layer}
use Rattle.cells.specs.declared.faults.Layer.TheVariants.{Plan, Trace}
use Rattle.texts.specs.Fields.{pieces, numbers_of}
use Rattle.texts.specs.declared.refusals.Refusal.{Refusal}
use Rattle.texts.specs.declared.refusals.Refusal.TheVariants.{Faulty, NoMemory}
use Rattle.texts.specs.Lines.{ToldBy, and_then, in_line, each_line, fit_text, body_of, read_text}
use Rattle.texts.specs.PlanLines.{plan_line}
use Rattle.texts.specs.Plans.{Layout, blank, placed, added, added_line, plan_step, plan_end, plan_of}
use Rattle.texts.specs.Traces.{slot_at, trace_numbers, trace_fields, line_placed, added_to, trace_step, trace_end, trace_of}
use Rattle.texts.specs.Writing.{tabbed, hop_written, party_written, line_written, plan_written, trace_written}
use Rattle.texts.specs.declared.forms.PlanEntry.{PlanEntry}
use Rattle.texts.specs.declared.forms.PlanEntry.TheVariants.{Hop, Party}
use Rattle.texts.specs.declared.forms.PlanParty.{PlanParty}
use Rattle.texts.specs.declared.forms.TraceLine.{TraceLine}
use Rattle.texts.proofs.Canonical.{not_both, entry_written, line_written_lem}
use Rattle.texts.proofs.Reading.{made_in_line}
use Rattle.texts.proofs.Rejoins.{ended, led-pieces, ended-pieces, numbers_written}

-- what holds of every answer that is defined holds of what was told
pub told_made : {X Y : Type 0} (f : X → Y) (P : Y → Type 0) (o : Result Y Fault) (r : Result X (Refusal Fault)) → ToldBy f o r → ((y : Y) → o ≡ Ok y → P y) → IfOk r (λ x. P (f x))
told_made f P o (Ok x) h k = k (f x) h
told_made f P o (Err (Faulty e)) h k = tt
told_made f P o (Err NoMemory) h k = tt

-- the last byte of a fit text is its newline
fit_ends : (bs : List ℕ) → fit_text bs ≡ true → take (length bs - 1) bs ++ 10 ∷ [] ≡ bs
fit_ends bs h =
    let e : get_or bs (length bs - 1) 0 ≡ 10 = eqb-true _ 10 (and_parts (leb (length bs) 32768) _ h).1 in
    let some : 0 < length bs = elim (cases_lt 0 (length bs)) [ inl l ↦ l | inr l ↦ (let z : get_or bs (length bs - 1) 0 ≡ 0 = get_or_past bs (length bs - 1) 0 (omega arith) in absurd (omega arith)) ] in
    let all : length bs - 1 + 1 ≡ length bs = omega arith in
    ap (λ b. take (length bs - 1) bs ++ b ∷ []) (sym e) ∙ sym (take_more bs (length bs - 1) 0 (omega arith)) ∙ ap (λ k. take k bs) all ∙ take_all (length bs) bs (omega arith)

module _ {M : Type 0} (y : Layer) (step : M → List ℕ → Result M Cause) (end : M → Result M Cause) (W : M → List ℕ)
    (step-adds : (m : M) (l : List ℕ) (r : M) → step m l ≡ Ok r → W r ≡ W m ++ (l ++ 10 ∷ []))
    (end-keeps : (m : M) (r : M) → end m ≡ Ok r → W m ≡ W r) where
  each_next : (n : ℕ) (m : M) (l : List ℕ) (ls : List (List ℕ)) (o : Result M Cause) (r : M) → step m l ≡ o → and_then (in_line y n o) (λ k. each_line y step end (n + 1) k ls) ≡ Ok r → ((k : M) → each_line y step end (n + 1) k ls ≡ Ok r → W k ++ ended 10 ls ≡ W r) → W m ++ ended 10 (l ∷ ls) ≡ W r
  each_next n m l ls (Err f) r x h go = not_both h
  each_next n m l ls (Ok k) r x h go =
      ap (λ t. W m ++ t) (sym (append_assoc l (10 ∷ []) (ended 10 ls))) ∙ sym (append_assoc (W m) (l ++ 10 ∷ []) (ended 10 ls)) ∙ ap (λ t. t ++ ended 10 ls) (sym (step-adds m l k x)) ∙ go k h

  each_written : (n : ℕ) (m : M) (ls : List (List ℕ)) (r : M) → each_line y step end n m ls ≡ Ok r → W m ++ ended 10 ls ≡ W r
  each_written n m [] r h = append-nil (W m) ∙ end-keeps m r (made_in_line y n (end m) r h)
  each_written n m (l ∷ ls) r h = each_next n m l ls (step m l) r refl h (λ k. each_written (n + 1) k ls r)

  body_written : (start : M) (bs : List ℕ) (t : Bool) (r : M) → fit_text bs ≡ t → W start ≡ [] → read_text y step end start (cond t (Some (take (length bs - 1) bs)) None) ≡ Ok r → W r ≡ bs
  body_written start bs false r x none h = not_both h
  body_written start bs true r x none h =
      sym (each_written 1 start (pieces 10 (take (length bs - 1) bs)) r h) ∙ ap (λ t. t ++ ended 10 (pieces 10 (take (length bs - 1) bs))) none ∙ ended-pieces 10 (take (length bs - 1) bs) ∙ fit_ends bs x

  pub read-written : (start : M) (bs : List ℕ) (r : M) → W start ≡ [] → read_text y step end start (body_of bs) ≡ Ok r → W r ≡ bs
  read-written start bs r none h = body_written start bs (fit_text bs) r refl none h

added-written : (m : Layout) (e : PlanEntry) → placed m e ≡ true → plan_written (added m e) ≡ plan_written m ++ entry_written (length m.hops) e
added-written m (Hop h) p =
    let none : m.parties ≡ [] = nil_from_length m.parties (eqb-true (length m.parties) 0 (and_parts (ltb (length m.hops) 8) (eqb (length m.parties) 0) p).1) in
    let hs = m.hops in
    ap (λ ps. flat_map hop_written (hs ++ h ∷ []) ++ flat_map (party_written (length (hs ++ h ∷ []))) ps) none
    ∙ append-nil (flat_map hop_written (hs ++ h ∷ []))
    ∙ sym (flat_map_more hop_written [] hs h)
    ∙ ap (λ t. t ++ hop_written h) (sym (append-nil (flat_map hop_written hs)))
    ∙ ap (λ ps. (flat_map hop_written hs ++ flat_map (party_written (length hs)) ps) ++ hop_written h) (sym none)
added-written m (Party q) p = sym (flat_map_more (party_written (length m.hops)) (flat_map hop_written m.hops) m.parties q)

placed-written : (m : Layout) (e : PlanEntry) (t : Bool) (r : Layout) → placed m e ≡ t → cond t (Ok (added m e)) (Err LinePlace) ≡ Ok r → plan_written r ≡ plan_written m ++ entry_written (length m.hops) e
placed-written m e true r x h = let same : r ≡ added m e = cc in ap plan_written same ∙ added-written m e x
placed-written m e false r x h = not_both h

plan_step_cases : (m : Layout) (l : List ℕ) (o : Result PlanEntry Cause) (r : Layout) → plan_line (length m.hops) (pieces 9 l) ≡ o → and_then o (added_line m) ≡ Ok r → plan_written r ≡ plan_written m ++ (l ++ 10 ∷ [])
plan_step_cases m l (Err f) r x h = not_both h
plan_step_cases m l (Ok e) r x h =
    placed-written m e (placed m e) r refl h ∙ ap (λ t. plan_written m ++ t) (sym (line_written_lem (length m.hops) l e x))

plan_end_cases : (m r : Layout) (t : Bool) → cond t (Ok m) (Err LinePlace) ≡ Ok r → plan_written m ≡ plan_written r
plan_end_cases m r true h = let same : m ≡ r = cc in ap plan_written same
plan_end_cases m r false h = not_both h

-- the text of a plan that was read is the writing of its layout
pub plan_written_lem : (bs : List ℕ) (r : Layout) → plan_of bs ≡ Ok r → plan_written r ≡ bs
plan_written_lem bs r h =
    read-written Plan plan_step plan_end plan_written (λ m l k. plan_step_cases m l (plan_line (length m.hops) (pieces 9 l)) k refl) (λ m k. plan_end_cases m k _) blank bs r refl h

trace_made : (p s l : ℕ) (x : TraceLine) (t : Bool) → cond t (Ok (record { party = p; slot = slot_at s; label = l })) (Err NumberOutOfRange) ≡ Ok x → decimal p ++ (tabbed (s ∷ l ∷ []) ++ 10 ∷ []) ≡ line_written x
trace_made p s l x true h = let same : record { party = p; slot = slot_at s; label = l } ≡ x = cc in ap line_written same
trace_made p s l x false h = not_both h

trace_cases : (ns : List ℕ) (x : TraceLine) → trace_numbers ns ≡ Ok x → tabbed ns ++ 10 ∷ [] ≡ 9 ∷ line_written x
trace_cases [] x h = not_both h
trace_cases (p ∷ []) x h = not_both h
trace_cases (p ∷ s ∷ []) x h = not_both h
trace_cases (p ∷ s ∷ l ∷ []) x h =
    ap (λ t. 9 ∷ t) (append_assoc (decimal p) (tabbed (s ∷ l ∷ [])) (10 ∷ []) ∙ trace_made p s l x _ h)
trace_cases (p ∷ s ∷ l ∷ k ∷ ks) x h = not_both h

trace_fields_lem : (l : List ℕ) (q : Option (List ℕ)) (x : TraceLine) → numbers_of (pieces 9 l) ≡ q → trace_fields q ≡ Ok x → l ++ 10 ∷ [] ≡ line_written x
trace_fields_lem l None x y h = not_both h
trace_fields_lem l (Some ns) x y h =
    ap (λ t. drop 1 t) (ap (λ t. t ++ 10 ∷ []) (sym (led-pieces 9 l) ∙ numbers_written (pieces 9 l) ns y) ∙ trace_cases ns x h)

placed_line : (ls : List TraceLine) (x : TraceLine) (t : Bool) (r : List TraceLine) → cond t (Ok (ls ++ x ∷ [])) (Err LinePlace) ≡ Ok r → trace_written r ≡ trace_written ls ++ line_written x
placed_line ls x true r h = let same : r ≡ ls ++ x ∷ [] = cc in ap trace_written same ∙ sym (flat_map_more line_written [] ls x)
placed_line ls x false r h = not_both h

trace_step_cases : (ps : List PlanParty) (ls : List TraceLine) (l : List ℕ) (o : Result TraceLine Cause) (r : List TraceLine) → trace_fields (numbers_of (pieces 9 l)) ≡ o → and_then o (added_to ps ls) ≡ Ok r → trace_written r ≡ trace_written ls ++ (l ++ 10 ∷ [])
trace_step_cases ps ls l (Err f) r x h = not_both h
trace_step_cases ps ls l (Ok y) r x h =
    placed_line ls y (line_placed ps ls y) r h ∙ ap (λ t. trace_written ls ++ t) (sym (trace_fields_lem l (numbers_of (pieces 9 l)) y refl x))

trace_end_cases : (ls r : List TraceLine) → trace_end ls ≡ Ok r → trace_written ls ≡ trace_written r
trace_end_cases ls r h = let same : ls ≡ r = cc in ap trace_written same

trace_body : (ps : List PlanParty) (bs : List ℕ) (t : Bool) (r : List TraceLine) → eqb (length bs) 0 ≡ t → cond t (Ok []) (read_text Trace (trace_step ps) trace_end [] (body_of bs)) ≡ Ok r → trace_written r ≡ bs
trace_body ps bs true r x h =
    let same : r ≡ [] = cc in
    ap trace_written same ∙ sym (nil_from_length bs (eqb-true (length bs) 0 x))
trace_body ps bs false r x h =
    read-written Trace (trace_step ps) trace_end trace_written (λ m l k. trace_step_cases ps m l (trace_fields (numbers_of (pieces 9 l))) k refl) trace_end_cases [] bs r refl h

-- the text of a trace that was read is the writing of its lines
pub trace_written_lem : (ps : List PlanParty) (bs : List ℕ) (r : List TraceLine) → trace_of ps bs ≡ Ok r → trace_written r ≡ bs
trace_written_lem ps bs r h = trace_body ps bs (eqb (length bs) 0) r refl h
