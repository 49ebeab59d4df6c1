use Rattle.memory_store.proofs.Listings.{range_forward, listing_rises_where}
use Rattle.memory_store.proofs.files.Files.listing.Goals as goal

pub listed_between-requires : goal.listed_between-requires
listed_between-requires g c = record { forward = range_forward c.args.path.now c.in_ok-first.first c.in_ok-end.end c.in_ok-first.ensures c.in_ok-end.ensures }

pub returns-clause-entries : goal.returns-clause-entries
returns-clause-entries g c = c.listed_between.ensures.entries c.args.path.now c.in_ok-first.ensures c.in_ok-end.ensures

pub returns-clause-rising : goal.returns-clause-rising
returns-clause-rising g c = listing_rises_where c.listed_between.result c.args.self.now c.args.path.now (returns-clause-entries g c)
