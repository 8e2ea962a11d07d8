-- Texts under their headings.
use Rattle.std.proofs.Common.{◌≡◌, ℕ, ◌+◌, Bool, true, false, ◌||◌, List, [], ◌∷◌, ◌++◌, length, map, Ok, refl, sym, ap, ◌∙◌, arith, append-nil, append_assoc, ◌≤◌}
use Rattle.std.specs.Prelude.{reverse, Result, Err, IsOk, IfOk}
use Rattle.std.specs.List.{list_any}
use Rattle.std.proofs.lemmas.List.{reverse-append, map-append, length-append}
use Rattle.std.proofs.lemmas.List.Folds.{list_any-append}
use Rattle.reply_text.specs.Answers.{heading}
use Rattle.client_texts.specs.Outputs.{under_headings}
use Rattle.client_run.specs.declared.client.ClientText.{ClientText}
use Rattle.client_run.specs.WithWorkers.{texts_in, is_bad}

pub under-one-more : (n : ℕ) (texts : List (List ℕ)) (text : List ℕ) → under_headings n (texts ++ text ∷ []) ≡ under_headings n texts ++ (heading (n + length texts) ++ text)
under-one-more n [] text = (let e : n + 0 ≡ n = omega arith in append-nil (heading n ++ text) ∙ ap (λ m. heading m ++ text) (sym e))
under-one-more n (t ∷ texts) text =
    let later = under-one-more (n + 1) texts text in
    let e : n + 1 + length texts ≡ n + length (t ∷ texts) = omega arith in
    let under = under_headings (n + 1) texts in
    ap (λ x. (heading n ++ t) ++ x) (later ∙ ap (λ m. under ++ (heading m ++ text)) e)
    ∙ sym (append_assoc (heading n ++ t) under (heading (n + length (t ∷ texts)) ++ text))

or-false : (b : Bool) → (b || false) ≡ b
or-false true = refl
or-false false = refl

or-assoc : (a b c : Bool) → ((a || b) || c) ≡ (a || (b || c))
or-assoc true b c = refl
or-assoc false b c = refl

length-texts : (said : List ClientText) → length (texts_in said) ≡ length said
length-texts [] = refl
length-texts (y ∷ said) = (let e = length-texts said in omega arith)

pub on-ok : {V E : Type 0} (P Q : V → Type 0) (r : Result V E) → ((v : V) → P v → Q v) → IsOk r × IfOk r P → IsOk r × IfOk r Q
on-ok P Q (Ok v) f holds = (holds.0, f v holds.1)
on-ok P Q (Err e) f holds = (let bad : false ≡ true = holds.0 in absurd cc)

-- What was put together so far: the answers that are left, and those that were added.
pub record Gathered {F : Type 0} (outs left : List (Result ClientText F)) (client : ℕ) (text now : List ℕ) (bad bad' : Bool) : Type 0 where
  pub few : length outs ≤ 8
  pub said : List ClientText
  pub cut : outs ≡ left ++ reverse (map (λ x. Ok x) said)
  pub text_is : now ≡ text ++ under_headings 1 (texts_in said)
  pub malformed : bad' ≡ bad || list_any is_bad said
  pub client_is : client ≡ 1 + length said

module _ {F : Type 0} where
  pub gathered-more : (outs left rest : List (Result ClientText F)) (client : ℕ) (text now : List ℕ) (bad bad' : Bool) (x : ClientText) (now' : List ℕ) (bad'' : Bool) → Gathered outs left client text now bad bad'
      → left ≡ rest ++ Ok x ∷ [] → now' ≡ (now ++ heading client) ++ x.reply.text → bad'' ≡ bad' || x.malformed → Gathered outs rest (client + 1) text now' bad bad''
  gathered-more outs left rest client text now bad bad' x now' bad'' g popped grown worse = record {
    few = g.few;
    said = g.said ++ x ∷ [];
    cut =
        g.cut
        ∙ (ap (λ xs. xs ++ reverse (map (λ y. Ok y) g.said)) popped
        ∙ (append_assoc rest (Ok x ∷ []) (reverse (map (λ y. Ok y) g.said))
        ∙ ap (λ xs. rest ++ xs) (sym (ap reverse (map-append (λ y. Ok y) g.said (x ∷ [])) ∙ reverse-append (map (λ y. Ok y) g.said) (Ok x ∷ [])))));
    text_is =
        grown
        ∙ (append_assoc now (heading client) x.reply.text
        ∙ ((λ i. g.text_is i ++ (heading (g.client_is i) ++ x.reply.text))
        ∙ (append_assoc text (under_headings 1 (texts_in g.said)) (heading (1 + length g.said) ++ x.reply.text)
        ∙ ap (λ t. text ++ t) (sym (ap (λ ts. under_headings 1 ts) (map-append (λ (y : ClientText). y.reply.text) g.said (x ∷ []))
        ∙ (under-one-more 1 (texts_in g.said) x.reply.text ∙ ap (λ n. under_headings 1 (texts_in g.said) ++ (heading (1 + n) ++ x.reply.text)) (length-texts g.said)))))));
    malformed =
        (worse ∙ (λ i. g.malformed i || x.malformed))
        ∙ (or-assoc bad (list_any is_bad g.said) x.malformed
        ∙ ap (λ b. bad || b) (sym (list_any-append is_bad g.said (x ∷ []) ∙ ap (λ b. list_any is_bad g.said || b) (or-false x.malformed))));
    client_is = (let a = g.client_is in let b = length-append g.said (x ∷ []) in omega arith);
  }
