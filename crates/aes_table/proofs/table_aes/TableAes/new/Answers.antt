use Rattle.std.proofs.Common.{arith, rules, length, map, ap, ◌∙◌, ◌≡◌, ◌+◌, ◌*◌, take}
use Rattle.std.proofs.lemmas.List.{get_or_default}
use Rattle.std_defs.specs.Aes.{IsKeyLength, rounds, words}
use Rattle.aes_block.proofs.Rounds.{key_is, is_schedule}
use Rattle.aes_table.specs.Words.{bytes_of}
use Rattle.aes_table.proofs.table_aes.TableAes.new.Goals as goal

pub invariant_of-result : goal.invariant_of-result
invariant_of-result c =
    let k = c.args.key.now in
    let h : IsKeyLength (length k) = search rules in
    let front : take (4 * (rounds k + 1)) (map bytes_of c.numbers_of-words.result) ≡ words k (4 * (rounds k + 1)) =
    ap (take (4 * (rounds k + 1))) c.numbers_of-words.ensures ∙ c.expand_key.ensures in
    record {
      scheduled = is_schedule k (map bytes_of c.numbers_of-words.result) (h, λ i d l. omega (arith, get_or_default k i d 0 l, c.type_inv.key i)) front;
      back = c.mixed_back_all.ensures;
    }

pub returns : goal.returns
returns c =
    let k = c.args.key.now in
    let h : IsKeyLength (length k) = search rules in
    let front : take (4 * (rounds k + 1)) (map bytes_of c.numbers_of-words.result) ≡ words k (4 * (rounds k + 1)) =
    ap (take (4 * (rounds k + 1))) c.numbers_of-words.ensures ∙ c.expand_key.ensures in
    (h, key_is k (map bytes_of c.numbers_of-words.result) h front)
