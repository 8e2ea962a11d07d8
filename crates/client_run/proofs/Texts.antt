-- Texts that are written one behind the other.
use Rattle.std.proofs.Common.{◌≡◌, ◌<◌, ◌+◌, ℕ, List, ◌++◌, length, get_or, drop, Option, sym, ap, ◌∙◌, append_assoc}
use Rattle.std.specs.Io.KnownBytes.{Appends}
use Rattle.std.proofs.KnownBytes.{Appends-trans}
use Rattle.std.proofs.lemmas.List.{at_drop_more}
use Rattle.kc_base.specs.Streams.{AppendsFront}
use Rattle.reply_text.specs.Written.{Written}
use Rattle.client_run.specs.WithWorkers.{in_one}

-- So many of the texts were written.
pub record Writing (texts : List Written) (at : ℕ) (held held' : Option (List ℕ)) : Type 0 where
  pub done : List ℕ
  pub left : done ++ in_one (drop at texts) ≡ in_one texts
  pub grown : Appends held held' done

module _ (texts : List Written) (held : Option (List ℕ)) where
  module _ (at : ℕ) (now : Option (List ℕ)) (w : Writing texts at held now) where
    module _ (text : Written) (below : at < length texts) (is : get_or texts at text ≡ text) (next : Option (List ℕ)) where
      abbrev behind : List ℕ
      behind = in_one (drop (at + 1) texts)

      this-one : in_one (drop at texts) ≡ text.text ++ behind
      this-one = at_drop_more in_one texts at text below ∙ ap (λ (t : Written). t.text ++ behind) is

      pub writing-more : Appends now next text.text → Writing texts (at + 1) held next
      writing-more grown = record {
        done = w.done ++ text.text;
        left = append_assoc w.done text.text behind ∙ (ap (λ t. w.done ++ t) (sym this-one) ∙ w.left);
        grown = Appends-trans held now next w.done text.text w.grown grown;
      }

      pub writing-front : AppendsFront now next text.text → AppendsFront held next (in_one texts)
      writing-front f = (
        w.done ++ f.0,
        (
          f.1.0 ++ behind,
          append_assoc w.done f.0 (f.1.0 ++ behind)
              ∙ (ap (λ t. w.done ++ t) (sym (append_assoc f.0 f.1.0 behind) ∙ (ap (λ t. t ++ behind) f.1.1 ∙ sym this-one)) ∙ w.left),
        ),
        Appends-trans held now next w.done f.0 w.grown f.2,
      )
