-- The definitions on names of every day.
use Rattle.std.proofs.Common.{◌≡◌, codes, refl, arith}
use Rattle.alg_names.specs.Name.{Tree, node, end, arg, spelling, depth, width, IsName, a_word, a_template, one}

aes : Tree
aes = node (codes "aes") end

ghash : Tree
ghash = node (codes "ghash") end

gcm_base : Tree
gcm_base = node (codes "gcm_base") (arg (node (codes "ctr") (arg (node (codes "aes") end) end)) (arg (node (codes "ghash") end) end))

spelled : spelling gcm_base ≡ codes "gcm_base(ctr(aes),ghash)"
unfolding gcm_base
spelled = refl

levels : depth gcm_base ≡ 3
unfolding gcm_base
levels = refl

widest : width gcm_base ≡ 2
unfolding gcm_base
widest = refl

aes_named : IsName (codes "aes") aes
unfolding aes
aes_named = a_word (omega arith, (refl, (refl, (refl, tt))))

gcm_named : IsName (codes "gcm(aes)") (node (codes "gcm") (arg (node (codes "aes") end) end))
gcm_named = a_template {w = codes "gcm"} {inner = codes "aes"} (omega arith, (refl, (refl, (refl, tt)))) (one (a_word (omega arith, (refl, (refl, (refl, tt))))))
