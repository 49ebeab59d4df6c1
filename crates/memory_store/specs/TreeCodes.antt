-- Codes, by which proofs distinguish entries and trees.
use Rattle.std.specs.Prelude.{◌≡◌, ℕ, List, Option, Some, None, refl}
use Rattle.std.specs.Coded.{Coded, code_by, coded×, coded_ℕ, coded_list, coded_option}
use Rattle.std.specs.FinMap as map
use Rattle.memory_store.specs.Tree.{Node, PathKey, Tree}
use Rattle.memory_store.specs.Tree.Node.{Directory, File}

abbrev pub parts_of : Node → Option (List ℕ × ℕ)
parts_of Directory = None
parts_of (File octets moment) = Some (octets, moment)

abbrev pub from_parts : Option (List ℕ × ℕ) → Node
from_parts None = Directory
from_parts (Some parts) = File parts.0 parts.1

abbrev pub parts_back : (node : Node) → from_parts (parts_of node) ≡ node
parts_back Directory = refl
parts_back (File octets moment) = refl

abbrev pub node_code : Coded Node
node_code =
    code_by (Option (List ℕ × ℕ))
    (coded_option (coded× (coded_list coded_ℕ) coded_ℕ)) parts_of from_parts parts_back

abbrev pub key_code : Coded PathKey
key_code = coded_list (coded_list coded_ℕ)

abbrev pub tree_code : Coded Tree
tree_code = map.code key_code node_code
