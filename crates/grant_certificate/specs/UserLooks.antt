-- Results of a search for bottlenecks within users and among them.
use Rattle.std.specs.Prelude.{◌≡◌, List}
use Rattle.limit_tree.specs.declared.place.Place.{Place}
use Rattle.grant_certificate.specs.UserNecks.{AreNecks}
use Rattle.grant_certificate.specs.declared.user_look.UserLook.{UserLook}

-- the leaves with a bottleneck among the nodes seen are marked, and no others
pub record SoughtNecks (start : UserLook) (seen : List Place) (now : UserLook) : Type 0 where
  pub owners : now.of.owners.now ≡ start.of.owners.now
  pub grants : now.of.grants.now ≡ start.of.grants.now
  pub floors : now.of.floors.now ≡ start.of.floors.now
  pub entries : now.entries.now ≡ start.entries.now
  pub marked : AreNecks seen start.of.owners.now start.of.grants.now start.of.floors.now
      start.entries.now now.marks
