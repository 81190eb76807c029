-- A text that was read is the writing of what it says.
use Rattle.std.proofs.Common.{◌≡◌, ℕ, ◌-◌, Bool, true, false, cond, ◌&&◌, eqb, leb, List, [], ◌∷◌, ◌++◌, map, length, take, replicate, Some, None, Ok, Err, codes, Option, Result, sym, refl, ap, ◌∙◌, append_assoc, append-nil, arith}
use lib.ListN.{length-map}
use Rattle.std.proofs.lemmas.Slice.Eq.{bytes_eq-Decides}
use Rattle.std.proofs.lemmas.List.{take_at}
use Rattle.std.proofs.lemmas.Bool.{eqb-true}
use Rattle.std.specs.Str.{bytes_eq}
use Rattle.cells.specs.Faults.{field}
use Rattle.cells.specs.declared.faults.Cause.TheVariants.{LineForm, NumberOutOfRange}
use Rattle.texts.specs.Fields.{pieces, numbers_of}
use Rattle.cells.specs.Makes.{make_name}
use Rattle.texts.specs.PlanLines.{span, kind_of, hop_numbers, hop_line, hop_fields, eight_of, terms, party_numbers, party_fields, plan_line}
use Rattle.texts.specs.Writing.{tabbed, hop_written, party_written}
use Rattle.cells.specs.declared.makes.Make.{Make}
use Rattle.cells.specs.declared.makes.Make.TheVariants.{Edf, Sp, Table}
use Rattle.texts.specs.declared.forms.PlanEntry.{PlanEntry}
use Rattle.texts.specs.declared.forms.PlanEntry.TheVariants.{Hop, Party}
use Rattle.texts.proofs.Rejoins.{led, parted, numbers_written}

-- nothing is both refused and made
pub not_both : {X E P : Type 0} {e : E} {x : X} → ◌≡◌ {A = Result X E} (Err e) (Ok x) → P
not_both {X} {E} {P} {e} {x} h = let z : ◌≡◌ {A = ℕ} 0 1 = cc in absurd (omega arith)

-- how an entry is written, in a plan of so many hops
abbrev pub entry_written : ℕ → PlanEntry → List ℕ
entry_written k (Hop h) = hop_written h
entry_written k (Party p) = party_written k p

kind_cases : (w : List ℕ) (a b c : Bool) (k : Make) → bytes_eq w (codes "EDF") ≡ a → bytes_eq w (codes "SP") ≡ b → bytes_eq w (codes "TABLE") ≡ c → cond a (Some Edf) (cond b (Some Sp) (cond c (Some Table) None)) ≡ Some k → w ≡ make_name k
kind_cases w true b c k x y z e = let same : Edf ≡ k = cc in (bytes_eq-Decides w (codes "EDF")).0 x ∙ ap make_name same
kind_cases w false true c k x y z e = let same : Sp ≡ k = cc in (bytes_eq-Decides w (codes "SP")).0 y ∙ ap make_name same
kind_cases w false false true k x y z e = let same : Table ≡ k = cc in (bytes_eq-Decides w (codes "TABLE")).0 z ∙ ap make_name same
kind_cases w false false false k x y z e = let n : ◌≡◌ {A = ℕ} 0 1 = cc in absurd (omega arith)

kind_named : (w : List ℕ) (k : Make) → kind_of w ≡ Some k → w ≡ make_name k
kind_named w k e = kind_cases w (bytes_eq w (codes "EDF")) (bytes_eq w (codes "SP")) (bytes_eq w (codes "TABLE")) k refl refl refl e

hop_made : (g : ℕ) (k : Make) (e : PlanEntry) (t : Bool) → cond t (Ok (Hop (record { kind = k; link = span g }))) (Err NumberOutOfRange) ≡ Ok e → Hop (record { kind = k; link = span g }) ≡ e
hop_made g k e true h = cc
hop_made g k e false h = not_both h

hop_cases : (hops : ℕ) (k : Make) (gs : List ℕ) (e : PlanEntry) → hop_numbers k gs ≡ Ok e → codes "HOP" ++ (9 ∷ (make_name k ++ (tabbed gs ++ 10 ∷ []))) ≡ entry_written hops e
hop_cases hops k [] e h = not_both h
hop_cases hops k (g ∷ []) e h =
    ap (λ l. codes "HOP" ++ (9 ∷ (make_name k ++ (l ++ 10 ∷ [])))) (append-nil (field g)) ∙ ap (entry_written hops) (hop_made g k e (leb g 63) h)
hop_cases hops k (g ∷ g' ∷ gs) e h = not_both h

hop_line_lem : (hops : ℕ) (w : List ℕ) (fs : List (List ℕ)) (k : Option Make) (q : Option (List ℕ)) (e : PlanEntry) → kind_of w ≡ k → numbers_of fs ≡ q → hop_line k q ≡ Ok e → codes "HOP" ++ (9 ∷ (w ++ (led 9 fs ++ 10 ∷ []))) ≡ entry_written hops e
hop_line_lem hops w fs None q e x y h = not_both h
hop_line_lem hops w fs (Some k) None e x y h = not_both h
hop_line_lem hops w fs (Some k) (Some gs) e x y h =
    ap (λ v. codes "HOP" ++ (9 ∷ (v ++ (led 9 fs ++ 10 ∷ [])))) (kind_named w k x)
    ∙ ap (λ l. codes "HOP" ++ (9 ∷ (make_name k ++ (l ++ 10 ∷ [])))) (numbers_written fs gs y)
    ∙ hop_cases hops k gs e h

hop_fields_lem : (hops : ℕ) (fs : List (List ℕ)) (e : PlanEntry) → hop_fields fs ≡ Ok e → codes "HOP" ++ (led 9 fs ++ 10 ∷ []) ≡ entry_written hops e
hop_fields_lem hops [] e h = not_both h
hop_fields_lem hops (w ∷ fs) e h =
    ap (λ l. codes "HOP" ++ (9 ∷ l)) (append_assoc w (led 9 fs) (10 ∷ [])) ∙ hop_line_lem hops w fs (kind_of w) (numbers_of fs) e refl refl h

spans : (ds : List ℕ) → map (λ d. d.0) (map span ds) ≡ ds
spans [] = refl
spans (d ∷ ds) = ap (λ l. d ∷ l) (spans ds)

bounds_back : (ds : List ℕ) (k : ℕ) → length ds ≡ k → map (λ d. d.0) (take k (eight_of ds)) ≡ ds
bounds_back ds k e =
    ap (map (λ d. d.0)) (take_at (map span ds) (replicate (8 - length ds) (span 0)) k (length-map ds span ∙ e)) ∙ spans ds

party_made : (p s hops : ℕ) (ds : List ℕ) (e : PlanEntry) (a b : Bool) → eqb (length ds) hops ≡ a → cond a (cond b (Ok (Party (record { number = p; spacing = span s; bounds = eight_of ds }))) (Err NumberOutOfRange)) (Err LineForm) ≡ Ok e → codes "PARTY" ++ (tabbed (p ∷ s ∷ ds) ++ 10 ∷ []) ≡ entry_written hops e
party_made p s hops ds e true true x h =
    let same : Party (record { number = p; spacing = span s; bounds = eight_of ds }) ≡ e = cc in
    ap (λ l. codes "PARTY" ++ (tabbed (p ∷ s ∷ l) ++ 10 ∷ [])) (sym (bounds_back ds hops (eqb-true (length ds) hops x))) ∙ ap (entry_written hops) same
party_made p s hops ds e true false x h = not_both h
party_made p s hops ds e false b x h = not_both h

party_cases : (hops : ℕ) (ns : List ℕ) (e : PlanEntry) → party_numbers hops ns ≡ Ok e → codes "PARTY" ++ (tabbed ns ++ 10 ∷ []) ≡ entry_written hops e
party_cases hops [] e h = not_both h
party_cases hops (p ∷ []) e h = not_both h
party_cases hops (p ∷ s ∷ ds) e h = party_made p s hops ds e (eqb (length ds) hops) (leb p 15 && (leb s 65535 && terms ds)) refl h

party_fields_lem : (hops : ℕ) (fs : List (List ℕ)) (q : Option (List ℕ)) (e : PlanEntry) → numbers_of fs ≡ q → party_fields hops q ≡ Ok e → codes "PARTY" ++ (led 9 fs ++ 10 ∷ []) ≡ entry_written hops e
party_fields_lem hops fs None e y h = not_both h
party_fields_lem hops fs (Some ns) e y h =
    ap (λ l. codes "PARTY" ++ (l ++ 10 ∷ [])) (numbers_written fs ns y) ∙ party_cases hops ns e h

word_cases : (hops : ℕ) (w : List ℕ) (fs : List (List ℕ)) (a b : Bool) (e : PlanEntry) → bytes_eq w (codes "HOP") ≡ a → bytes_eq w (codes "PARTY") ≡ b → cond a (hop_fields fs) (cond b (party_fields hops (numbers_of fs)) (Err LineForm)) ≡ Ok e → w ++ (led 9 fs ++ 10 ∷ []) ≡ entry_written hops e
word_cases hops w fs true b e x y h =
    ap (λ v. v ++ (led 9 fs ++ 10 ∷ [])) ((bytes_eq-Decides w (codes "HOP")).0 x) ∙ hop_fields_lem hops fs e h
word_cases hops w fs false true e x y h =
    ap (λ v. v ++ (led 9 fs ++ 10 ∷ [])) ((bytes_eq-Decides w (codes "PARTY")).0 y) ∙ party_fields_lem hops fs (numbers_of fs) e refl h
word_cases hops w fs false false e x y h = not_both h

line_cases : (hops : ℕ) (l : List ℕ) (ps : List (List ℕ)) (e : PlanEntry) → pieces 9 l ≡ ps → plan_line hops ps ≡ Ok e → l ++ 10 ∷ [] ≡ entry_written hops e
line_cases hops l [] e x h = not_both h
line_cases hops l (w ∷ fs) e x h =
    ap (λ v. v ++ 10 ∷ []) (parted 9 l w fs x) ∙ append_assoc w (led 9 fs) (10 ∷ []) ∙ word_cases hops w fs (bytes_eq w (codes "HOP")) (bytes_eq w (codes "PARTY")) e refl refl h

-- a line that says something is how that is written
pub line_written_lem : (hops : ℕ) (l : List ℕ) (e : PlanEntry) → plan_line hops (pieces 9 l) ≡ Ok e → l ++ 10 ∷ [] ≡ entry_written hops e
line_written_lem hops l e h = line_cases hops l (pieces 9 l) e refl h
