-- The tree that a text spells, computed.
use Rattle.std.specs.Prelude.{ℕ, List, [], Option, Some, None}
use Rattle.alg_names.specs.Name.{Tree, node, end}
use Rattle.alg_names.specs.Reader.{in_word, closed, Reading, reading, run, start}

abbrev pub tree_behind : Reading → Option Tree
tree_behind (reading [] (in_word w)) = Some (node w end)
tree_behind (reading [] (closed t)) = Some t
tree_behind _ = None

-- the tree of the name, `None` where the text is no name
unfoldable pub tree_of : List ℕ → Option Tree
tree_of text = tree_behind (run start text)
