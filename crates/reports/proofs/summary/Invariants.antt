use Rattle.std.proofs.Common.{◌≡◌, ◌++◌, drop, string_bytes}
use Rattle.std.specs.List.{flat_map, enumerate_from}
use Rattle.texts.specs.Plans.{layout_of}
use Rattle.reports.specs.Reports.{hop_text, party_text, line_text}
use Rattle.reports.proofs.summary.Given as goal

-- what is written and what is left make up what the loop writes
abbrev pub invariant-loop-index : goal.invariant-loop-index
invariant-loop-index l =
    string_bytes l.initial.out ++ flat_map (λ p. hop_text p.0 p.1) (enumerate_from 0 l.hops) ≡ string_bytes l.out ++ flat_map (λ p. hop_text p.0 p.1) (enumerate_from l.index-counter (drop l.index-counter l.hops))

abbrev pub invariant-loop-party : goal.invariant-loop-party
invariant-loop-party l =
    string_bytes l.initial.out ++ flat_map (party_text (layout_of l.plan).hops) l.parties ≡ string_bytes l.out ++ flat_map (party_text (layout_of l.plan).hops) (drop l.party-index l.parties)

abbrev pub invariant-loop-line : goal.invariant-loop-line
invariant-loop-line l =
    string_bytes l.initial.out ++ flat_map line_text l.lines ≡ string_bytes l.out ++ flat_map line_text (drop l.line-index l.lines)
