-- The calls by which a text is written to a file beside.
use Rattle.std.proofs.Common.{◌≡◌, ℕ, List, [], ◌∷◌, Option, Result, Ok, Err, IfErr, OnErr, OnOk, true, ◌⊎◌, inl, inr, refl, subst, sym}
use Rattle.std.specs.Prelude.{string_bytes}
use Rattle.std.specs.List.{AllByRecursion}
use Rattle.std.specs.declared.io.Error.{Error}
use Rattle.folder_store.specs.MachineCalls.{MachineCall, Makes}
use Rattle.folder_store.specs.MachineCalls.MachineCall.{Follows, Closes, RemovesFile, Renames}
use Rattle.folder_store.specs.declared.looked.Looked.{Looked}
use Rattle.machine_parts.specs.Answers.{may_be_replaced}
use Rattle.machine_parts.specs.Rewriting.{Fills, LeavesOther, LeavesOthers, Rewrites, TriesOut, WritesNew, kind_in}
use Rattle.machine_parts.specs.declared.status_file.StatusFile.{StatusFile}

pub on-err : {T E : Type 0} (result : Result T E) (Claim : Type 0) → Claim → OnErr result Claim
on-err (Ok done) Claim is = tt
on-err (Err error) Claim is = is

module _ {M F D : Type 0} (Does : M → MachineCall F D → M → Type 0) (beside : List ℕ) where
  pub one : (old new : M) (call : MachineCall F D) → Does old call new → LeavesOther beside call → LeavesOthers Does beside old new
  one old new call does leaves = (call ∷ [], (new, does, refl), (leaves, tt))

  pub before : (old mid new : M) (call : MachineCall F D) → Does old call mid → LeavesOther beside call → LeavesOthers Does beside mid new → LeavesOthers Does beside old new
  before old mid new call does leaves more = (call ∷ more.0, (mid, does, more.1), (leaves, more.2))

  after_calls : (calls : List (MachineCall F D)) (old mid new : M) (call : MachineCall F D) → Makes Does old calls mid → AllByRecursion (λ call. LeavesOther beside call) calls
      → Does mid call new → LeavesOther beside call → LeavesOthers Does beside old new
  after_calls [] old mid new call same all does leaves = one old new call (subst (λ (m : M). Does m call new) same does) leaves
  after_calls (first ∷ calls) old mid new call made all does leaves =
      before old made.0 new first made.1 all.0 (after_calls calls made.0 mid new call made.2 all.1 does leaves)

  pub after : (old mid new : M) (call : MachineCall F D) → LeavesOthers Does beside old mid → Does mid call new → LeavesOther beside call → LeavesOthers Does beside old new
  after old mid new call made does leaves = after_calls made.0 old mid new call made.1 made.2 does leaves

  -- a file that was made beside, whether it could be filled or not
  pub filled : (contents : F → Option (List ℕ)) (file : F) (text : List ℕ) (old mid new : M) → LeavesOthers Does beside old mid → (result : Result (Unit {0}) Error)
      → OnOk result (Fills Does contents mid file text new) → IfErr result (λ error. (new ≡ mid) ⊎ ((full : F) × Does mid (Closes full (Err error)) new))
      → LeavesOthers Does beside old new
  filled contents file text old mid new made (Ok done) is none = after old mid new (Closes is.0 (Ok tt)) made is.2 tt
  filled contents file text old mid new made (Err error) none (inl same) = subst (λ (m : M). LeavesOthers Does beside old m) (sym same) made
  filled contents file text old mid new made (Err error) none (inr closed) = after old mid new (Closes closed.0 (Err error)) made closed.1 tt

  -- a rename that was refused
  pub unrenamed : (old mid new : M) (from to : List ℕ) (result : Result (Unit {0}) Error) → LeavesOthers Does beside old mid
      → Does mid (Renames from to result) new → OnErr result (LeavesOthers Does beside old new)
  unrenamed old mid new from to (Ok done) made does = tt
  unrenamed old mid new from to (Err error) made does = after old mid new (Renames from to (Err error)) made does tt

module _ {M F D : Type 0} (Does : M → MachineCall F D → M → Type 0) (contents : F → Option (List ℕ)) (file : StatusFile M) where
  pub rewrites : (text : List ℕ) (found : Result Looked Error) (seen written new : M) (path beside from to : List ℕ)
      → path ≡ string_bytes file.path → beside ≡ string_bytes file.beside → from ≡ string_bytes file.beside → to ≡ string_bytes file.path
      → Does file.machine (Follows path found) seen → may_be_replaced (kind_in found) ≡ true → WritesNew Does contents seen beside text written
      → (answer : Result (Unit {0}) Error) → Does written (Renames from to answer) new → OnOk answer (Rewrites Does contents file text new)
  rewrites text found seen written new path beside from to at by same_by same_at looked free made (Err error) moved = tt
  rewrites text found seen written new path beside from to at by same_by same_at looked free made (Ok done) moved =
      let renamed : Does written (Renames from (string_bytes file.path) (Ok tt)) new = subst (λ (p : List ℕ). Does written (Renames from p (Ok tt)) new) same_at moved in (
        found,
        seen,
        written,
        subst (λ (p : List ℕ). Does file.machine (Follows p found) seen) at looked,
        free,
        subst (λ (p : List ℕ). WritesNew Does contents seen p text written) by made,
        subst (λ (p : List ℕ). Does written (Renames p (string_bytes file.path) (Ok tt)) new) same_by renamed,
      )

  pub tries-out : (written new : M) (beside again : List ℕ) → beside ≡ string_bytes file.beside → again ≡ string_bytes file.beside
      → WritesNew Does contents file.machine beside [] written → (answer : Result (Unit {0}) Error) → Does written (RemovesFile again answer) new
      → OnOk answer (TriesOut Does contents file new)
  tries-out written new beside again by same made (Err error) removed = tt
  tries-out written new beside again by same made (Ok done) removed = (
    written,
    subst (λ (p : List ℕ). WritesNew Does contents file.machine p [] written) by made,
    subst (λ (p : List ℕ). Does written (RemovesFile p (Ok tt)) new) same removed,
  )
