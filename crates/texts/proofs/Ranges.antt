-- What a line says is in range.
use Rattle.std.proofs.Common.{◌≡◌, ℕ, Bool, true, false, cond, ◌&&◌, leb, eqb, List, [], ◌∷◌, length, Some, None, Ok, Err, codes, Option, sym, refl, ap, ◌∙◌}
use Rattle.std.proofs.lemmas.Bool.{and_parts}
use Rattle.std.specs.Str.{bytes_eq}
use Rattle.cells.specs.declared.faults.Cause.TheVariants.{LineForm, NumberOutOfRange}
use Rattle.texts.specs.Fields.{numbers_of}
use Rattle.texts.specs.Parties.{ranged}
use Rattle.texts.specs.PlanLines.{span, kind_of, hop_numbers, hop_line, hop_fields, terms, eight_of, party_numbers, party_fields, plan_line}
use Rattle.texts.specs.Traces.{line_ranged, trace_numbers, trace_fields}
use Rattle.cells.specs.declared.makes.Make.{Make}
use Rattle.texts.specs.declared.forms.PlanEntry.{PlanEntry}
use Rattle.texts.specs.declared.forms.PlanEntry.TheVariants.{Party}
use Rattle.texts.specs.declared.forms.TraceLine.{TraceLine}
use Rattle.texts.proofs.Canonical.{not_both}

tested : {X : Type 0} (r : X → Bool) (t : Bool) (x y : X) → (t ≡ true → r x ≡ true) → cond t (Ok x) (Err NumberOutOfRange) ≡ Ok y → r y ≡ true
tested r true x y h e = let same : x ≡ y = cc in ap r (sym same) ∙ h refl
tested r false x y h e = not_both e

hop_ranged : (k : Make) (gs : List ℕ) (e : PlanEntry) → hop_numbers k gs ≡ Ok e → ranged e ≡ true
hop_ranged k [] e h = not_both h
hop_ranged k (g ∷ []) e h = tested ranged (leb g 63) _ e (λ t. t) h
hop_ranged k (g ∷ g' ∷ gs) e h = not_both h

hop_line_ranged : (k : Option Make) (q : Option (List ℕ)) (e : PlanEntry) → hop_line k q ≡ Ok e → ranged e ≡ true
hop_line_ranged None q e h = not_both h
hop_line_ranged (Some k) None e h = not_both h
hop_line_ranged (Some k) (Some gs) e h = hop_ranged k gs e h

hop_fields_ranged : (fs : List (List ℕ)) (e : PlanEntry) → hop_fields fs ≡ Ok e → ranged e ≡ true
hop_fields_ranged [] e h = not_both h
hop_fields_ranged (w ∷ fs) e h = hop_line_ranged (kind_of w) (numbers_of fs) e h

party_cases : (p s hops : ℕ) (ds : List ℕ) (e : PlanEntry) (t : Bool) → cond t (cond (leb p 15 && (leb s 65535 && terms ds)) (Ok (Party (record { number = p; spacing = span s; bounds = eight_of ds }))) (Err NumberOutOfRange)) (Err LineForm) ≡ Ok e → ranged e ≡ true
party_cases p s hops ds e true h = tested ranged (leb p 15 && (leb s 65535 && terms ds)) _ e (λ t. (and_parts (leb p 15) (leb s 65535 && terms ds) t).0) h
party_cases p s hops ds e false h = not_both h

party_ranged : (hops : ℕ) (ns : List ℕ) (e : PlanEntry) → party_numbers hops ns ≡ Ok e → ranged e ≡ true
party_ranged hops [] e h = not_both h
party_ranged hops (p ∷ []) e h = not_both h
party_ranged hops (p ∷ s ∷ ds) e h = party_cases p s hops ds e (eqb (length ds) hops) h

party_fields_ranged : (hops : ℕ) (q : Option (List ℕ)) (e : PlanEntry) → party_fields hops q ≡ Ok e → ranged e ≡ true
party_fields_ranged hops None e h = not_both h
party_fields_ranged hops (Some ns) e h = party_ranged hops ns e h

word_cases : (hops : ℕ) (fs : List (List ℕ)) (a b : Bool) (e : PlanEntry) → cond a (hop_fields fs) (cond b (party_fields hops (numbers_of fs)) (Err LineForm)) ≡ Ok e → ranged e ≡ true
word_cases hops fs true b e h = hop_fields_ranged fs e h
word_cases hops fs false true e h = party_fields_ranged hops (numbers_of fs) e h
word_cases hops fs false false e h = not_both h

pub plan_line_ranged : (hops : ℕ) (ps : List (List ℕ)) (e : PlanEntry) → plan_line hops ps ≡ Ok e → ranged e ≡ true
plan_line_ranged hops [] e h = not_both h
plan_line_ranged hops (w ∷ fs) e h = word_cases hops fs (bytes_eq w (codes "HOP")) (bytes_eq w (codes "PARTY")) e h

trace_ranged : (ns : List ℕ) (x : TraceLine) → trace_numbers ns ≡ Ok x → line_ranged x ≡ true
trace_ranged [] x h = not_both h
trace_ranged (p ∷ []) x h = not_both h
trace_ranged (p ∷ s ∷ []) x h = not_both h
trace_ranged (p ∷ s ∷ l ∷ []) x h = tested line_ranged (leb p 15 && (leb s 16777215 && leb l 4294967295)) _ x (λ t. ranges p s l t) h where
  ranges : (p s l : ℕ) → (leb p 15 && (leb s 16777215 && leb l 4294967295)) ≡ true → (leb p 15 && leb s 16777215) ≡ true
  ranges p s l t = let a = and_parts (leb p 15) (leb s 16777215 && leb l 4294967295) t in let b = and_parts (leb s 16777215) (leb l 4294967295) a.1 in cc
trace_ranged (p ∷ s ∷ l ∷ m ∷ ms) x h = not_both h

pub trace_fields_ranged : (q : Option (List ℕ)) (x : TraceLine) → trace_fields q ≡ Ok x → line_ranged x ≡ true
trace_fields_ranged None x h = not_both h
trace_fields_ranged (Some ns) x h = trace_ranged ns x h
