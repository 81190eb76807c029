-- Reading a text line by line.
use Rattle.std.proofs.Common.{◌≡◌, ℕ, ◌+◌, ◌-◌, ◌≤◌, Bool, true, false, cond, eqb, leb, List, [], ◌∷◌, ◌++◌, length, take, Some, None, Ok, Err, Option, Result, Bor, MatchResult, IsErrAnd, sym, refl, ap, ◌∙◌, subst, length-append, arith}
use Rattle.std.proofs.lemmas.Bool.{and_parts, leb-true}
use Rattle.std.proofs.lemmas.List.{length-take-le}
use Rattle.std.specs.List.{onto_first}
use Rattle.std.specs.Option.{option_map}
use Rattle.cells.specs.declared.faults.Cause.{Cause}
use Rattle.cells.specs.declared.faults.Cause.TheVariants.{LinePlace}
use Rattle.cells.specs.declared.faults.Fault.{Fault}
use Rattle.cells.specs.declared.faults.Layer.{Layer}
use Rattle.texts.specs.Fields.{pieces, numbers_of}
use Rattle.texts.specs.Lines.{ToldBy, and_then, in_line, each_line, fit_text, body_of}
use Rattle.texts.specs.Refusals.{refusal_in_line}
use Rattle.texts.specs.PlanLines.{plan_line}
use Rattle.texts.specs.Plans.{Layout, placed, added, added_line, plan_step, lines_in}
use Rattle.texts.specs.Traces.{trace_fields, line_placed, added_to, trace_step}
use Rattle.texts.specs.declared.refusals.Refusal.{Refusal}
use Rattle.texts.specs.declared.refusals.Refusal.TheVariants.{Faulty, NoMemory}
use Rattle.texts.specs.declared.forms.PlanEntry.{PlanEntry}
use Rattle.texts.specs.declared.forms.PlanEntry.TheVariants.{Hop, Party}
use Rattle.texts.specs.declared.forms.PlanParty.{PlanParty}
use Rattle.texts.specs.declared.forms.TraceLine.{TraceLine}
use Rattle.texts.proofs.Canonical.{not_both}

-- the body, as the code has it
pub body_now : (o : Option (Bor (List ℕ))) (x : Bor (List ℕ)) (b : Option (List ℕ)) → option_map (λ y. y.now) o ≡ b → o ≡ Some x → b ≡ Some x.now
body_now o x b h e = sym h ∙ ap (option_map (λ y. y.now)) e

body_few_cases : (bs xs : List ℕ) (t : Bool) → fit_text bs ≡ t → cond t (Some (take (length bs - 1) bs)) None ≡ Some xs → length xs ≤ 32768
body_few_cases bs xs true e h =
    let same : take (length bs - 1) bs ≡ xs = cc in
    omega (arith, leb-true (length bs) 32768 (and_parts (leb (length bs) 32768) _ e).0, length-take-le (length bs - 1) bs (omega arith), ap (λ ys. length ys) same)
body_few_cases bs xs false e h = let z : ◌≡◌ {A = ℕ} 0 1 = cc in absurd (omega arith)

-- a body is no longer than a text may be
pub body_few : (bs xs : List ℕ) → body_of bs ≡ Some xs → length xs ≤ 32768
body_few bs xs h = body_few_cases bs xs (fit_text bs) refl h

more_pieces : (b x n : ℕ) (ps : List (List ℕ)) (t : Bool) → length ps ≤ n + 1 → 1 ≤ length ps → (1 ≤ length (cond t ([] ∷ ps) (onto_first x ps))) × (length (cond t ([] ∷ ps) (onto_first x ps)) ≤ n + 1 + 1)
more_pieces b x n [] t h l = absurd (omega arith)
more_pieces b x n (p ∷ ps) true h l = (omega arith, omega arith)
more_pieces b x n (p ∷ ps) false h l = (omega arith, omega arith)

piece_count : (b : ℕ) (xs : List ℕ) → (1 ≤ length (pieces b xs)) × (length (pieces b xs) ≤ length xs + 1)
piece_count b [] = (omega arith, omega arith)
piece_count b (x ∷ xs) = let h = piece_count b xs in let m = more_pieces b x (length xs) (pieces b xs) (eqb x b) h.1 h.0 in (m.0, omega (arith, m.1))

-- the pieces are at most one more than the bytes
pub few_pieces : (b : ℕ) (xs : List ℕ) → length (pieces b xs) ≤ length xs + 1
few_pieces b xs = (piece_count b xs).1

-- what `map_err` answered, where the call before it told o
pub numbered : {X Y : Type 0} (f : X → Y) (y : Layer) (n : ℕ) (o : Result Y Cause) (r : Result X (Refusal Cause)) (s : Result X (Refusal Fault)) → ToldBy f o r → MatchResult r (λ x. s ≡ Ok x) (λ e. IsErrAnd s (λ d. d ≡ refusal_in_line y n e)) → ToldBy f (in_line y n o) s
numbered f y n o (Ok x) s h m = subst (ToldBy f (in_line y n o)) (sym m) (ap (in_line y n) h)
numbered f y n o (Err (Faulty c)) (Err d) h m = subst (λ e. ToldBy f (in_line y n o) (Err e)) (sym m) (ap (in_line y n) h)
numbered f y n o (Err NoMemory) (Err d) h m = subst (λ e. ToldBy f (in_line y n o) (Err e)) (sym m) tt
numbered f y n o (Err c) (Ok x) h m = absurd m

module _ {M : Type 0} (y : Layer) (step : M → List ℕ → Result M Cause) (end : M → Result M Cause) where
  -- a line that was read
  pub line_read : (n : ℕ) (m k : M) (l : List ℕ) (ls : List (List ℕ)) → in_line y n (step m l) ≡ Ok k → each_line y step end n m (l ∷ ls) ≡ each_line y step end (n + 1) k ls
  line_read n m k l ls e = ap (λ o. and_then o (λ k. each_line y step end (n + 1) k ls)) e

  -- a line that was refused refuses its text
  pub line_refused : {X Z : Type 0} (f : X → M) (g : Z → M) (n : ℕ) (m : M) (l : List ℕ) (ls : List (List ℕ)) (r : Refusal Fault) → ToldBy {X = X} f (in_line y n (step m l)) (Err r) → ToldBy {X = Z} g (each_line y step end n m (l ∷ ls)) (Err r)
  line_refused f g n m l ls (Faulty c) h = ap (λ o. and_then o (λ k. each_line y step end (n + 1) k ls)) h
  line_refused f g n m l ls NoMemory h = tt

placed_one : (m k : Layout) (e : PlanEntry) (t : Bool) → cond t (Ok (added m e)) (Err LinePlace) ≡ Ok k → lines_in k ≡ lines_in m + 1
placed_one m k (Hop h) true x = let same : added m (Hop h) ≡ k = cc in ap lines_in (sym same) ∙ omega (arith, length-append m.hops (h ∷ []))
placed_one m k (Party p) true x = let same : added m (Party p) ≡ k = cc in ap lines_in (sym same) ∙ omega (arith, length-append m.parties (p ∷ []))
placed_one m k e false x = not_both x

pub made_in_line : {X : Type 0} (y : Layer) (n : ℕ) (o : Result X Cause) (x : X) → in_line y n o ≡ Ok x → o ≡ Ok x
made_in_line y n (Ok z) x h = let same : z ≡ x = cc in ap (λ v. Ok v) same
made_in_line y n (Err c) x h = not_both h

step_one : (m k : Layout) (o : Result PlanEntry Cause) → and_then o (added_line m) ≡ Ok k → lines_in k ≡ lines_in m + 1
step_one m k (Ok e) x = placed_one m k e (placed m e) x
step_one m k (Err c) x = not_both x

-- a plan's line is one line more
pub plan_step_one : (y : Layer) (n : ℕ) (m k : Layout) (l : List ℕ) → in_line y n (plan_step m l) ≡ Ok k → lines_in k ≡ lines_in m + 1
plan_step_one y n m k l h = step_one m k (plan_line (length m.hops) (pieces 9 l)) (made_in_line y n (plan_step m l) k h)

trace_placed_one : (ls ks : List TraceLine) (x : TraceLine) (t : Bool) → cond t (Ok (ls ++ x ∷ [])) (Err LinePlace) ≡ Ok ks → length ks ≡ length ls + 1
trace_placed_one ls ks x true h = let same : ls ++ x ∷ [] ≡ ks = cc in ap (λ xs. length xs) (sym same) ∙ omega (arith, length-append ls (x ∷ []))
trace_placed_one ls ks x false h = not_both h

trace_one : (ps : List PlanParty) (ls ks : List TraceLine) (o : Result TraceLine Cause) → and_then o (added_to ps ls) ≡ Ok ks → length ks ≡ length ls + 1
trace_one ps ls ks (Ok x) h = trace_placed_one ls ks x (line_placed ps ls x) h
trace_one ps ls ks (Err c) h = not_both h

-- a trace's line is one line more
pub trace_step_one : (y : Layer) (n : ℕ) (ps : List PlanParty) (ls ks : List TraceLine) (l : List ℕ) → in_line y n (trace_step ps ls l) ≡ Ok ks → length ks ≡ length ls + 1
trace_step_one y n ps ls ks l h = trace_one ps ls ks (trace_fields (numbers_of (pieces 9 l))) (made_in_line y n (trace_step ps ls l) ks h)
