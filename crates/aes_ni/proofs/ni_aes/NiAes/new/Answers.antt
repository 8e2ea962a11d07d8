use Rattle.std.specs.Prelude.{◌≡◌, ◌<◌, ◌≤◌, ◌*◌}
use Rattle.std.proofs.Common.{arith, rules, length, subst, sym, ap, ◌∙◌, ◌+◌, ◌/◌, take, ⊎_elim}
use Rattle.std.proofs.lemmas.List.{get_or_default}
use Rattle.std_defs.specs.Aes.{IsKeyLength, key_words, rounds, words}
use Rattle.aes_block.specs.Schedule.{IsSchedule, key_of}
use Rattle.aes_block.specs.KeyBlock.{sixty_words}
use Rattle.aes_block.proofs.KeyBlocks.{front_is}
use Rattle.aes_block.proofs.Rounds.{key_is, is_schedule}
use Rattle.aes_ni.proofs.ni_aes.NiAes.new.Goals as goal

pub invariant_of-result : goal.invariant_of-result
invariant_of-result c =
    let k = c.args.key.now in
    let h : IsKeyLength (length k) = search rules in
    let some : 0 < key_words k = ⊎_elim (λ a. omega arith) (λ o. ⊎_elim (λ a. omega arith) (λ a. omega arith) o) h in
    let within : 4 * (rounds k + 1) ≤ 60 = ⊎_elim (λ a. omega arith) (λ o. ⊎_elim (λ a. omega arith) (λ a. omega arith) o) h in
    let front : take (4 * (rounds k + 1)) (sixty_words c.expand_key_by.result) ≡ words k (4 * (rounds k + 1)) = front_is k c.expand_key_by.result (4 * (rounds k + 1)) some within c.expand_key_by.ensures in
    record {
      scheduled = subst (IsSchedule (length k / 4 + 6)) (sym c.round_keys-keys.ensures.schedule)
          (is_schedule k (sixty_words c.expand_key_by.result) (h, λ i d l. omega (arith, get_or_default k i d 0 l, c.type_inv.key i)) front);
      blocks = c.round_keys-keys.ensures.blocks;
      mixed_back = c.back_keys.ensures;
    }

pub returns : goal.returns
returns c =
    let k = c.args.key.now in
    let h : IsKeyLength (length k) = search rules in
    let some : 0 < key_words k = ⊎_elim (λ a. omega arith) (λ o. ⊎_elim (λ a. omega arith) (λ a. omega arith) o) h in
    let within : 4 * (rounds k + 1) ≤ 60 = ⊎_elim (λ a. omega arith) (λ o. ⊎_elim (λ a. omega arith) (λ a. omega arith) o) h in
    let front : take (4 * (rounds k + 1)) (sixty_words c.expand_key_by.result) ≡ words k (4 * (rounds k + 1)) = front_is k c.expand_key_by.result (4 * (rounds k + 1)) some within c.expand_key_by.ensures in
    (h, ap (key_of (length k / 4 + 6)) c.round_keys-keys.ensures.schedule ∙ key_is k (sixty_words c.expand_key_by.result) h front)
