use Rattle.std.proofs.Common.{◌≡◌, ℕ, List, ◌++◌, ◌-◌, length, replicate, drop, ap}
use Rattle.std.proofs.lemmas.List.{drop-replicate}
use Rattle.hmac_sha.proofs.key_block.filled.Goals as goal

zeros_behind : (new front : List ℕ) (n : ℕ) → new ≡ front → new ++ drop n (replicate 64 0) ≡ front ++ replicate (64 - n) 0
zeros_behind new front n is = rw is (ap (λ (rest : List ℕ). front ++ rest) (drop-replicate n 64 0))

pub returns : goal.returns
returns c = zeros_behind c.copy_from_slice.new.self c.args.front.now (length c.args.front.now) c.copy_from_slice.ensures.after
