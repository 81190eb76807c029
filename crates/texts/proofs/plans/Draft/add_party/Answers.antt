use Rattle.std.proofs.Common.{◌≡◌, ◌+◌, ◌≤◌, true, false, leb, [], ◌∷◌, ◌++◌, is_ok, vec_items, vec_len, arith, rules}
use Rattle.texts.specs.Parties.{apart, known_parties, listed}
use Rattle.texts.proofs.Pushes.{push_keeps, all_push, apart_push}
use Rattle.texts.proofs.plans.Draft.add_party.Goals as goal

pub invariant_of-self : goal.invariant_of-self
invariant_of-self c =
    let s = c.args.self.now in
    let p = c.args.party in
    let ps = vec_items s.parties in
    let ok = is_ok c.push.result in
    let new : listed p.number ps ≡ false = search rules in
    let room : vec_len s.parties + 1 ≤ 16 = omega (arith, c.len.ensures) in
    let few = push_keeps (λ n. n ≤ 16) _ _ _ _ c.push.ensures.len room s.few_parties in
    let once = push_keeps (λ xs. apart xs ≡ true) ok ps (ps ++ p ∷ []) _ c.push.ensures.items (apart_push ps p s.once new) s.once in
    let known = push_keeps (λ xs. known_parties xs ≡ true) ok ps (ps ++ p ∷ []) _ c.push.ensures.items (all_push (λ x. leb x.number 15) ps p s.known c.requires) s.known in
    record { few_hops = s.few_hops; few_parties = few; once = once; short = s.short; known = known }
