use Rattle.std.proofs.Common.{◌≡◌, All, length}
use Rattle.ftp_server.proofs.stores.open_own.Given as goal

abbrev pub invariant-loop : goal.invariant-loop
invariant-loop l =
    (length l.own.items ≡ l.counter) × All (λ opened. opened.store.folder ≡ l.folder) l.own.items
    × All (λ opened. opened.store.syncs ≡ l.syncs) l.own.items
