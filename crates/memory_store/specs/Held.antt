-- Entries of a store in memory as contracts see them.
use Rattle.std.specs.Prelude.{◌≡◌, ℕ, Bool, List, length, take, nat_lt, Vec}
use Rattle.std.specs.Arc.{arc_value}
use Rattle.std.specs.declared.sync.Arc.{Arc}
use Rattle.virtual_path.specs.Path.{slashed, names_in, HasNoSlash}
use Rattle.memory_store.specs.declared.entry.Content.{Content}
use Rattle.memory_store.specs.declared.entry.Content.TheVariants as content
use Rattle.memory_store.specs.Tree.{Node}
use Rattle.memory_store.specs.Tree.Node.{Directory, File}

abbrev pub node_of : {A : Type 0} → Content A → Node
node_of content.Directory = Directory
node_of (content.File octets moment) = File (arc_value octets).items moment

-- the shared octets
abbrev pub shared : {A B : Type 0} → Arc (Vec ℕ A) B → List ℕ
shared octets = (arc_value octets).items

-- the stored parts of an entry's path: the text of its directory, with `/` before each name, and
-- its own name
pub record IsPathKeyText (directory name : List ℕ) : Type 0 where
  pub slashes : slashed (names_in directory) ≡ directory
  pub no_slash : HasNoSlash name

-- a sink holds the first of the octets that it received, at most `most`, and knows whether it
-- received more
pub record IsHeld (most : ℕ) (held : List ℕ) (is_cut : Bool) (received : List ℕ) : Type 0 where
  pub first : held ≡ take most received
  pub cut : is_cut ≡ nat_lt most (length received)
