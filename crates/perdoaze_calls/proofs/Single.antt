-- A text in one piece.
use Rattle.std.proofs.Common.{◌≡◌, ℕ, List, [], ◌∷◌, length, get_or, set, sym, subst, ◌∙◌, arith, append-nil}
use Rattle.piece_modes.specs.Pieces.{text_over}
use Rattle.perdoaze_calls.specs.Requests.{EncryptsWithin, DecryptsWithin}
use Rattle.piece_modes.specs.declared.piece.PieceMut.{PieceMut}
use Rattle.perdoaze_calls.specs.declared.status.Status.{Status}
use Rattle.perdoaze_calls.specs.declared.transform.Transform.{Transform}

text_of_one : (ps : List PieceMut) (d : PieceMut) → length ps ≡ 1 → (get_or ps 0 d).bytes.now ≡ text_over ps
text_of_one [] d e = absurd (omega (arith, e))
text_of_one (p ∷ []) d e = sym (append-nil p.bytes.now)
text_of_one (p ∷ q ∷ ps) d e = absurd (omega (arith, e))

text_of_new : (ps : List PieceMut) (p : PieceMut) → length ps ≡ 1 → p.bytes.now ≡ text_over (set ps 0 p)
text_of_new [] p e = absurd (omega (arith, e))
text_of_new (q ∷ []) p e = sym (append-nil p.bytes.now)
text_of_new (q ∷ r ∷ ps) p e = absurd (omega (arith, e))

module _ (t : Transform) (iv aad : List ℕ) (n : ℕ) (status : Status) (ps : List PieceMut) (d p : PieceMut) (new : List ℕ) (written : ℕ)
    (one : length ps ≡ 1) (made : p.bytes.now ≡ new) where
  pub encrypted_one : EncryptsWithin t iv aad n status (get_or ps 0 d).bytes.now new written → EncryptsWithin t iv aad n status (text_over ps) (text_over (set ps 0 p)) written
  encrypted_one h =
      subst (λ (x : List ℕ). EncryptsWithin t iv aad n status x (text_over (set ps 0 p)) written) (text_of_one ps d one)
      (subst (λ (y : List ℕ). EncryptsWithin t iv aad n status (get_or ps 0 d).bytes.now y written) (sym made ∙ text_of_new ps p one) h)

  pub decrypted_one : DecryptsWithin t iv aad n status (get_or ps 0 d).bytes.now new written → DecryptsWithin t iv aad n status (text_over ps) (text_over (set ps 0 p)) written
  decrypted_one h =
      subst (λ (x : List ℕ). DecryptsWithin t iv aad n status x (text_over (set ps 0 p)) written) (text_of_one ps d one)
      (subst (λ (y : List ℕ). DecryptsWithin t iv aad n status (get_or ps 0 d).bytes.now y written) (sym made ∙ text_of_new ps p one) h)
