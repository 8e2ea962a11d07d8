use Rattle.std.proofs.Common.{◌≡◌, ◌∙◌, ◌+◌, ℕ, List, [], ◌∷◌, ◌++◌, sym, ap, subst, take, get_or}
use Rattle.std.proofs.lemmas.List.{take_more, flat_map_more, get_or_default}
use Rattle.std.proofs.lemmas.List.Concat.{concat_is}
use Rattle.std.specs.List.{concat}
use Rattle.sha_lanes.specs.Hashers.{HasAbsorbed}
use Rattle.hmac_sha.proofs.mac.hash_parts.Goals as goal

pub loop-part-preserved : goal.loop-part-preserved
loop-part-preserved c = λ m h.
    let parts : List (List ℕ) = c.args.parts.now in
    let i : ℕ = c.loop-part.part-index in
    let read : c.as_slice.result.now ≡ get_or parts i [] = c.as_slice.ensures ∙ (c.part-item.is ∙ get_or_default parts i c.part-item.result [] c.loop-part-test.true) in
    let more : m ++ concat (take i parts) ++ get_or parts i [] ≡ m ++ concat (take (i + 1) parts) =
    ap (λ (t : List ℕ). m ++ t ++ get_or parts i []) (concat_is (take i parts))
    ∙ flat_map_more (λ x. x) m (take i parts) (get_or parts i [])
    ∙ ap (λ (t : List ℕ). m ++ t) (sym (concat_is (take i parts ++ get_or parts i [] ∷ [])))
    ∙ ap (λ (ps : List (List ℕ)). m ++ concat ps) (sym (take_more parts i [] c.loop-part-test.true)) in
    subst (λ (t : List ℕ). HasAbsorbed c.update.new.self t) (ap (λ (t : List ℕ). m ++ concat (take i parts) ++ t) read ∙ more)
    (c.update.ensures (m ++ concat (take i parts)) (c.loop-part.invariant m h))
