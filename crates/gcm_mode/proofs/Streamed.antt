-- how a hash follows bytes as they grow
use Rattle.std.proofs.Common.{◌≡◌, ℕ, ◌+◌, ◌-◌, ◌%◌, ◌<◌, List, [], ◌++◌, length, take, drop, All, refl, sym, ap, ◌∙◌, arith, append_assoc, append-nil, length-append, take-append-drop, take_all, drop-drop}
use Rattle.std.proofs.lemmas.List.{take_rest}
use Rattle.std.proofs.lemmas.List.Elements.{All-append, All-nil}
use Rattle.std_defs.specs.Gcm.{padded, padded_blocks}
use Rattle.std_defs.proofs.Horner.{horner, horner-append}
use Rattle.ghash_field.specs.Laws.{padded_blocks-append}
use Rattle.gcm_mode.specs.declared.byte_hash.ByteHash.{ByteHash}
use Rattle.gcm_mode.specs.Streams.{Hashed}

pub hashed_none : (h y : ℕ) (s : ByteHash) → s.hash ≡ y → s.len ≡ 0 → Hashed h y s []
unfolding horner padded padded_blocks
hashed_none h y s is none = record { whole = []; blocks = refl; cut = ap (λ (k : ℕ). take (k % 16) s.rest) (sym none); hashed = is; len = none; bytes = All-nil (λ x. x < 256) }

-- the hash of whole blocks, carried on over bytes
on : (h y r v : ℕ) (whole bytes : List ℕ) → length whole % 16 ≡ 0 → r ≡ horner h v (padded_blocks bytes) → v ≡ horner h y (padded_blocks whole)
    → r ≡ horner h y (padded_blocks (whole ++ bytes))
on h y r v whole bytes blocks is before =
    is ∙ ap (λ (t : ℕ). horner h t (padded_blocks bytes)) before
    ∙ sym (horner-append h y (padded_blocks whole) (padded_blocks bytes))
    ∙ ap (horner h y) (sym (padded_blocks-append whole bytes blocks))

module _ (h y : ℕ) (s n : ByteHash) (m d : List ℕ) (long : n.len ≡ s.len + length d) (small : All (λ x. x < 256) d) (x : Hashed h y s m) where
  len_more : n.len ≡ length (m ++ d)
  len_more = omega (arith, length-append m d, x.len, long)

  cut_more : m ++ d ≡ x.whole ++ (take (s.len % 16) s.rest ++ d)
  cut_more = ap (λ (t : List ℕ). t ++ d) x.cut ∙ append_assoc x.whole (take (s.len % 16) s.rest) d

  -- bytes that leave the block short
  pub hashed_short : s.len % 16 + length d < 16 → take (s.len % 16 + length d) n.rest ≡ take (s.len % 16) s.rest ++ d → n.hash ≡ s.hash → Hashed h y n (m ++ d)
  hashed_short short placed same =
      let at : s.len % 16 + length d ≡ n.len % 16 = omega (arith, long) in
      record {
        whole = x.whole;
        blocks = x.blocks;
        cut = cut_more ∙ ap (λ (t : List ℕ). x.whole ++ t) (sym placed ∙ ap (λ (k : ℕ). take k n.rest) at);
        hashed = same ∙ x.hashed;
        len = len_more;
        bytes = All-append (λ x. x < 256) m d x.bytes small;
      }

  -- bytes that fill it
  pub hashed_full : s.len % 16 + length d ≡ 16 → length n.rest ≡ 16 → take (s.len % 16 + length d) n.rest ≡ take (s.len % 16) s.rest ++ d
      → n.hash ≡ horner h s.hash (padded_blocks n.rest) → Hashed h y n (m ++ d)
  hashed_full full sixteen placed is =
      let at : 0 ≡ n.len % 16 = omega (arith, long) in
      record {
        whole = x.whole ++ n.rest;
        blocks = omega (arith, x.blocks, sixteen, length-append x.whole n.rest);
        cut = cut_more ∙ ap (λ (t : List ℕ). x.whole ++ t) (sym placed ∙ take_all (s.len % 16 + length d) n.rest (omega arith))
            ∙ sym (append-nil (x.whole ++ n.rest)) ∙ ap (λ (k : ℕ). (x.whole ++ n.rest) ++ take k n.rest) at;
        hashed = on h y n.hash s.hash x.whole n.rest x.blocks is x.hashed;
        len = len_more;
        bytes = All-append (λ x. x < 256) m d x.bytes small;
      }

  -- whole blocks, between two blocks
  pub hashed_blocks : s.len % 16 ≡ 0 → length d % 16 ≡ 0 → n.hash ≡ horner h s.hash (padded_blocks d) → Hashed h y n (m ++ d)
  hashed_blocks between whole is =
      let at : 0 ≡ n.len % 16 = omega (arith, long) in
      record {
        whole = x.whole ++ d;
        blocks = omega (arith, x.blocks, whole, length-append x.whole d);
        cut = cut_more ∙ ap (λ (k : ℕ). x.whole ++ (take k s.rest ++ d)) between
            ∙ sym (append-nil (x.whole ++ d)) ∙ ap (λ (k : ℕ). (x.whole ++ d) ++ take k n.rest) at;
        hashed = on h y n.hash s.hash x.whole d x.blocks is x.hashed;
        len = len_more;
        bytes = All-append (λ x. x < 256) m d x.bytes small;
      }

-- the hash of all
pub hashed_hash : (h y r : ℕ) (s : ByteHash) (m : List ℕ) → r ≡ horner h s.hash (padded_blocks (take (s.len % 16) s.rest)) → Hashed h y s m → r ≡ horner h y (padded_blocks m)
hashed_hash h y r s m is x = on h y r s.hash x.whole (take (s.len % 16) s.rest) x.blocks is x.hashed ∙ ap (λ (t : List ℕ). horner h y (padded_blocks t)) (sym x.cut)

-- bytes in three parts, behind others
pub in_three : (m d : List ℕ) (f k e : ℕ) → f + k ≡ e → ((m ++ take f d) ++ take k (drop f d)) ++ take (length d - e) (drop e d) ≡ m ++ d
in_three m d f k e at =
    ap (λ (t : List ℕ). ((m ++ take f d) ++ take k (drop f d)) ++ t) (take_rest d e)
    ∙ ap (λ (n : ℕ). ((m ++ take f d) ++ take k (drop f d)) ++ drop n d) (sym at)
    ∙ ap (λ (t : List ℕ). ((m ++ take f d) ++ take k (drop f d)) ++ t) (sym (drop-drop k f d))
    ∙ append_assoc (m ++ take f d) (take k (drop f d)) (drop k (drop f d))
    ∙ ap (λ (t : List ℕ). (m ++ take f d) ++ t) (take-append-drop k (drop f d))
    ∙ append_assoc m (take f d) (drop f d)
    ∙ ap (λ (t : List ℕ). m ++ t) (take-append-drop f d)
