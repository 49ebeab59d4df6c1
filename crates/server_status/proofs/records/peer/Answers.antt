use Rattle.std.proofs.Common.{◌≡◌, ◌∙◌, ap, subst, sym}
use Rattle.std.specs.Net.Addr.{ipv4_octets}
use Rattle.serde_json.specs.Data.{Data}
use Rattle.serde_json.specs.View.{view}
use Rattle.server_status.specs.Fits.{IsAddress}
use Rattle.server_status.proofs.Addresses.{same_address, same_some}
use Rattle.server_status.proofs.records.peer.Goals as goal

pub returns-in-Some-address_of : goal.returns-in-Some-address_of
returns-in-Some-address_of c = record {
  peer = λ value address at is.
      let here : value ≡ view c.in-Some.value.now = same_some value (view c.in-Some.value.now) (sym at ∙ sym c.in-Some.ensures.member) in
      c.octets.ensures
      ∙ ap ipv4_octets
      (same_address (view c.in-Some.value.now) c.in-Some-address_of.address address c.in-Some-address_of.ensures.address (subst (λ (d : Data). IsAddress d address) here is));
}
