-- What a plan keeps: short links, known parties, none twice.
use Rattle.std.specs.Prelude.{ℕ, Bool, true, not, ◌&&◌, leb, List, [], ◌∷◌, ◌==◌, nat_le}
use Rattle.std.specs.List.{list_any, list_all}
use Rattle.texts.specs.declared.forms.PlanHop.{PlanHop}
use Rattle.texts.specs.declared.forms.PlanParty.{PlanParty}
use Rattle.texts.specs.declared.forms.PlanEntry.{PlanEntry}
use Rattle.texts.specs.declared.forms.PlanEntry.TheVariants.{Hop, Party}

-- whether a party has a line
abbrev pub listed : ℕ → List PlanParty → Bool
listed n ps = list_any (λ p. p.number == n) ps

-- no party has two lines
abbrev pub apart : List PlanParty → Bool
apart [] = true
apart (p ∷ ps) = not (listed p.number ps) && apart ps

-- each link is at most 63 slots long
abbrev pub few_slots : List PlanHop → Bool
few_slots hs = list_all (λ h. leb h.link.0 63) hs

-- each party is at most 15
abbrev pub known_parties : List PlanParty → Bool
known_parties ps = list_all (λ p. leb p.number 15) ps

-- an entry with its link or its party in range
abbrev pub ranged : PlanEntry → Bool
ranged (Hop h) = nat_le h.link.0 63
ranged (Party p) = nat_le p.number 15
