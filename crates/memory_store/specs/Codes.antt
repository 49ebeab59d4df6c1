-- Codes, by which proofs distinguish values of stores in memory.
use Rattle.std.specs.Prelude.{ℕ, List, refl}
use Rattle.std.specs.Coded.{Coded, code_by, coded×, coded_ℕ, coded_list}
use Rattle.memory_store.specs.TreeCodes.{key_code, tree_code}
use Rattle.memory_store.specs.Tree.{PathKey, Tree}
use Rattle.memory_store.specs.InMemory.{Memory, Upload}

abbrev pub memory_code : Coded Memory
memory_code =
    code_by (Tree × ℕ) (coded× tree_code coded_ℕ) (λ memory. (memory.tree, memory.capacity))
    (λ parts. record { tree = parts.0; capacity = parts.1 }) (λ _. refl)

abbrev pub upload_code : Coded Upload
upload_code =
    code_by (PathKey × (ℕ × (ℕ × List ℕ)))
    (coded× key_code (coded× coded_ℕ (coded× coded_ℕ (coded_list coded_ℕ))))
    (λ upload. (upload.key, (upload.kept, (upload.most, upload.octets))))
    (λ parts.
    record {
      key = parts.0;
      kept = parts.1.0;
      most = parts.1.1.0;
      octets = parts.1.1.1;
    }) (λ _. refl)
