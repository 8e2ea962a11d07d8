-- What opening gives, by the test of the tag.
use Rattle.std.proofs.Common.{◌≡◌, ℕ, List, ap, sym, ◌∙◌, inr, Option, Result, Ok, Err, true, false, cond, take, bytes_eq}
use Rattle.std.proofs.lemmas.Bool.{cond-true, cond-false}
use Rattle.std_defs.specs.Value.{Value, or_invalid}
use Rattle.std_defs.specs.Value.Value.{bad_message}
use Rattle.kc_base.specs.declared.error_numbers.Errno.{Errno}
use Rattle.aes_block.specs.Outcome.{Becomes}
use Rattle.aes_block.specs.Opened.{Opens}

pub same_tag : (full hashed tag : List ℕ) (n : ℕ) (given : Option (List ℕ)) → full ≡ hashed → bytes_eq (take n full) tag ≡ true
    → cond (bytes_eq (take n hashed) tag) (or_invalid given) bad_message ≡ or_invalid given
same_tag full hashed tag n given is same = cond-true (bytes_eq (take n hashed) tag) (or_invalid given) bad_message (ap (λ (t : List ℕ). bytes_eq (take n t) tag) (sym is) ∙ same)

pub other_tag : (full hashed tag : List ℕ) (n : ℕ) (given : Option (List ℕ)) → full ≡ hashed → bytes_eq (take n full) tag ≡ false
    → cond (bytes_eq (take n hashed) tag) (or_invalid given) bad_message ≡ bad_message
other_tag full hashed tag n given is other = cond-false (bytes_eq (take n hashed) tag) (or_invalid given) bad_message (ap (λ (t : List ℕ). bytes_eq (take n t) tag) (sym is) ∙ other)

-- a text that the cipher took or refused, where the tag was right
pub opened : (r : Result (Unit {0}) Errno) (given : Option (List ℕ)) (value : Value) (old new : List ℕ)
    → value ≡ or_invalid given → Becomes r given old new → Opens r value old new
opened (Ok x) given value old new is h = is ∙ ap or_invalid h
opened (Err e) given value old new is h = (inr (h.0, is ∙ ap or_invalid h.1), h.2)
