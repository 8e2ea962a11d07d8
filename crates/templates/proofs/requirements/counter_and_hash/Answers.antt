use Rattle.std.proofs.Common.{◌≡◌, length, codes, List, ◌∷◌, ◌++◌, [], ap, ◌∙◌, arith}
use Rattle.alg_names.specs.Name.{Tree, node, end, word_of, with_word_of}
use Rattle.templates.proofs.Words.{gcm_length, asked_gcm}
use Rattle.templates.proofs.requirements.counter_and_hash.Goals as goal

pub with_word-counter-requires-clause-short : goal.with_word-counter-requires-clause-short
with_word-counter-requires-clause-short c =
    omega (arith, gcm_length c.args.name.now c.requires.word, ap (λ t. length (word_of t)) c.in_ok-copy.ensures, ap length c.in_ok-ctr.ensures)

two_pushed : (a b c : List Tree) (x y z : Tree) → a ≡ [] → b ≡ a ++ x ∷ [] → c ≡ b ++ y ∷ [] → y ≡ z → c ≡ x ∷ z ∷ []
two_pushed a b c x y z p q r s = r ∙ (ap (λ l. l ++ y ∷ []) (q ∙ ap (λ l. l ++ x ∷ []) p) ∙ ap (λ u. x ∷ u ∷ []) s)

pub returns-clause-ok : goal.returns-clause-ok
returns-clause-ok c =
    asked_gcm c.args.name.now c.with_word-counter.result c.push-2.new.self.items c.requires.one
    (c.with_word-counter.ensures ∙ (ap (λ t. with_word_of t c.in_ok-ctr.ctr) c.in_ok-copy.ensures ∙ ap (λ w. with_word_of c.args.name.now w) c.in_ok-ctr.ensures))
    (two_pushed _ _ _ c.with_word-counter.result c.alone.result (node (codes "ghash") end) c.new-names.ensures.items c.in_ok-push.ensures.items c.in_ok-push-2.ensures.items (c.alone.ensures ∙ ap (λ w. node w end) c.in_ok-ghash.ensures))
