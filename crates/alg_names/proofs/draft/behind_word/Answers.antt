use Rattle.std.proofs.Common.{sym, subst}
use Rattle.alg_names.specs.Name.{IsAllowed, node}
use Rattle.alg_names.specs.Built.{args_from}
use Rattle.alg_names.specs.Drafts.{frames}
use Rattle.alg_names.proofs.Drafted.{word_allowed}
use Rattle.alg_names.proofs.draft.behind_word.Goals as goal

pub from_parts-name-requires : goal.from_parts-name-requires
from_parts-name-requires c =
    subst (λ xs. IsAllowed (node c.args.word (args_from xs))) (sym c.new-else-byte-eq40.ensures.items) (word_allowed (frames c.args.templates.items) c.args.word c.requires.fine)
