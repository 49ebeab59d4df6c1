use Rattle.std.proofs.Common.{◌≡◌, ◌≢◌, ◌++◌, ℕ, List, [], length, take, Option, Some, inl, inr, refl, sym, ap, ◌∙◌, subst, arith, append_assoc, append-nil}
use lib.Seq.{take-append_seam}
use Rattle.std.proofs.KnownBytes.{Appends-nil, Consumes-nil}
use Rattle.line_rates.specs.declared.ask.Way.TheVariants.{Up}
use Rattle.data_pump.specs.Counts.{next_if, is_part, failed_part}
use Rattle.data_pump.specs.declared.pumped.FailedPart.TheVariants.{Connection}
use Rattle.data_pump.specs.declared.pumped.Pumped.{Pumped}
use Rattle.data_pump.specs.declared.pumped.PumpEnd.{PumpEnd}
use Rattle.data_pump.specs.declared.pumped.PumpEnd.TheVariants.{Ended, More, ReadFault, WriteFault, Memory}
use Rattle.data_pump.specs.WireText.{received, ReceivesOctets}
use Rattle.data_pump.specs.Uploads.{InFlow, InView, MovesIn, IsReceiving}
use Rattle.data_pump.proofs.KnownLemmas.{known-appended, known-consumed, known-at_end, no_octets}
use Rattle.data_pump.proofs.WireLemmas.{receives-append, receives_none}
use Rattle.virtual_tree.specs.Calls.{Target}

pub front_of : (xs ys : List ℕ) (n : ℕ) → n ≡ length xs → take n (xs ++ ys) ≡ xs
front_of xs ys n e = ap (λ m. take m (xs ++ ys)) e ∙ take-append_seam xs ys

-- an end that is no fault of the read
pub no_read_fault : (end : PumpEnd) (count : ℕ) → end ≢ ReadFault → count ≡ next_if (is_part Connection (failed_part Up end)) count
no_read_fault Ended count h = refl
no_read_fault More count h = refl
no_read_fault ReadFault count h = absurd (h refl)
no_read_fault WriteFault count h = refl
no_read_fault Memory count h = refl

module _ {K X : Type 0} (remaining : K → Option (List ℕ)) (collected : X → Option (List ℕ)) (target : X → Option Target) where
  pub receiving_at_open : (before octets : List ℕ) (upload : InView K X) → upload.flow.held ≡ [] → upload.last ≡ More
      → remaining upload.flow.connection ≡ Some octets → collected upload.flow.sink ≡ Some before → IsReceiving remaining collected before octets upload
  receiving_at_open before octets upload nothing is comes holds = record {
    came = [];
    rest = octets;
    held = [];
    text = [];
    whole = refl;
    holds = holds ∙ ap Some (sym (append-nil before));
    meant = λ e. receives_none upload.flow.data_type [];
    more = λ e. (comes, nothing);
    ended = λ e. absurd (let h : More ≡ Ended = sym is ∙ e in cc);
  }

  -- a pump that told that there is more
  receiving_more : (granted : ℕ) (old new : InView K X) (pumped : Pumped) (before octets : List ℕ)
      → MovesIn remaining collected target granted old.flow new.flow pumped → IsReceiving remaining collected before octets old → old.last ≡ More
      → new.last ≡ pumped.end → pumped.end ≡ More → IsReceiving remaining collected before octets new
  receiving_more granted old new pumped before octets moves receiving was last more =
      let gives = moves.given more in
      let at = receiving.more was in
      let left = known-consumed (remaining old.flow.connection) (remaining new.flow.connection) receiving.rest moves.read at.0 moves.consumed in
      let begun : ReceivesOctets old.flow.data_type [] receiving.came receiving.text old.flow.held =
      subst (ReceivesOctets old.flow.data_type [] receiving.came receiving.text) (sym at.1)
      (receiving.meant (λ e. let h : More ≡ Ended = sym was ∙ e in cc)) in
      record {
        came = receiving.came ++ moves.read;
        rest = left.rest;
        held = new.flow.held;
        text = receiving.text ++ gives.text;
        whole = receiving.whole ∙ (ap (λ l. receiving.came ++ l) left.whole ∙ sym (append_assoc receiving.came moves.read left.rest));
        holds =
            known-appended (collected old.flow.sink) (collected new.flow.sink) (before ++ receiving.text) gives.text receiving.holds gives.appended
            ∙ ap Some (append_assoc before receiving.text gives.text);
        meant = λ e.
            subst (λ t. ReceivesOctets t [] (receiving.came ++ moves.read) (receiving.text ++ gives.text) new.flow.held) (sym moves.same_type)
            (receives-append old.flow.data_type [] receiving.came receiving.text old.flow.held moves.read gives.text new.flow.held begun gives.meant);
        more = λ e. (left.known, refl);
        ended = λ e. absurd (let h : More ≡ Ended = sym more ∙ (sym last ∙ e) in cc);
      }

  -- a pump that told the end
  receiving_ended : (granted : ℕ) (old new : InView K X) (pumped : Pumped) (before octets : List ℕ)
      → MovesIn remaining collected target granted old.flow new.flow pumped → IsReceiving remaining collected before octets old → old.last ≡ More
      → new.last ≡ pumped.end → pumped.end ≡ Ended → IsReceiving remaining collected before octets new
  receiving_ended granted old new pumped before octets moves receiving was last is =
      let ended = moves.ended is in
      let at = receiving.more was in
      let data_type = old.flow.data_type in
      let held = old.flow.held in
      let begun : ReceivesOctets data_type [] receiving.came receiving.text held =
      subst (ReceivesOctets data_type [] receiving.came receiving.text) (sym at.1) (receiving.meant (λ e. let h : More ≡ Ended = sym was ∙ e in cc)) in
      let left = known-consumed (remaining old.flow.connection) (remaining new.flow.connection) receiving.rest moves.read at.0 moves.consumed in
      let none : moves.read ≡ [] = no_octets moves.read pumped.moved moves.count ended.none in
      let last_rest : left.rest ≡ [] = known-at_end (remaining new.flow.connection) left.rest left.known ended.at_end in
      let rest : receiving.rest ≡ [] = left.whole ∙ (ap (λ l. l ++ left.rest) none ∙ last_rest) in
      let all : octets ≡ receiving.came = receiving.whole ∙ (ap (λ l. receiving.came ++ l) rest ∙ append-nil receiving.came) in
      let text : received data_type octets ≡ receiving.text ++ held =
      ap (received data_type) (all ∙ sym (append-nil receiving.came))
      ∙ (begun [] ∙ ap (λ l. receiving.text ++ l) (ap (received data_type) (append-nil held) ∙ ended.alone)) in
      record {
        came = receiving.came;
        rest = receiving.rest;
        held = [];
        text = receiving.text ++ held;
        whole = receiving.whole;
        holds =
            known-appended (collected old.flow.sink) (collected new.flow.sink) (before ++ receiving.text) held receiving.holds ended.appended
            ∙ ap Some (append_assoc before receiving.text held);
        meant = λ e. absurd (e (last ∙ is));
        more = λ e. absurd (let h : Ended ≡ More = sym is ∙ (sym last ∙ e) in cc);
        ended = λ e. sym text ∙ ap (λ t. received t octets) (sym moves.same_type);
      }

  -- a pump that told a fault: what the sink holds is as before
  receiving_failed : (granted : ℕ) (old new : InView K X) (pumped : Pumped) (before octets : List ℕ)
      → MovesIn remaining collected target granted old.flow new.flow pumped → IsReceiving remaining collected before octets old → old.last ≡ More
      → (new.last ≢ More) → (new.last ≢ Ended) → collected new.flow.sink ≡ collected old.flow.sink → IsReceiving remaining collected before octets new
  receiving_failed granted old new pumped before octets moves receiving was no_more no_end same = record {
    came = receiving.came;
    rest = receiving.rest;
    held = receiving.held;
    text = receiving.text;
    whole = receiving.whole;
    holds = same ∙ receiving.holds;
    meant = λ e.
        subst (λ t. ReceivesOctets t [] receiving.came receiving.text receiving.held) (sym moves.same_type)
        (receiving.meant (λ e. let h : More ≡ Ended = sym was ∙ e in cc));
    more = λ e. absurd (no_more e);
    ended = λ e. absurd (no_end e);
  }

  receiving_by_end : (end : PumpEnd) (granted : ℕ) (old new : InView K X) (pumped : Pumped) (before octets : List ℕ)
      → MovesIn remaining collected target granted old.flow new.flow pumped → IsReceiving remaining collected before octets old → old.last ≡ More
      → new.last ≡ pumped.end → pumped.end ≡ end → IsReceiving remaining collected before octets new
  receiving_by_end Ended granted old new pumped before octets moves receiving was last is =
      receiving_ended granted old new pumped before octets moves receiving was last is
  receiving_by_end More granted old new pumped before octets moves receiving was last is =
      receiving_more granted old new pumped before octets moves receiving was last is
  receiving_by_end ReadFault granted old new pumped before octets moves receiving was last is =
      receiving_failed granted old new pumped before octets moves receiving was (λ e. let h : ReadFault ≡ More = sym is ∙ (sym last ∙ e) in cc)
      (λ e. let h : ReadFault ≡ Ended = sym is ∙ (sym last ∙ e) in cc) (ap collected (moves.failed is).1)
  receiving_by_end WriteFault granted old new pumped before octets moves receiving was last is =
      receiving_failed granted old new pumped before octets moves receiving was (λ e. let h : WriteFault ≡ More = sym is ∙ (sym last ∙ e) in cc)
      (λ e. let h : WriteFault ≡ Ended = sym is ∙ (sym last ∙ e) in cc) (moves.refused (inl is))
  receiving_by_end Memory granted old new pumped before octets moves receiving was last is =
      receiving_failed granted old new pumped before octets moves receiving was (λ e. let h : Memory ≡ More = sym is ∙ (sym last ∙ e) in cc)
      (λ e. let h : Memory ≡ Ended = sym is ∙ (sym last ∙ e) in cc) (moves.refused (inr is))

  -- what is known of a pump, whatever the one before it told
  receiving_by_last : (was : PumpEnd) (granted : ℕ) (old new : InView K X) (pumped : Pumped) (before octets : List ℕ) → old.last ≡ was
      → (old.last ≡ More → MovesIn remaining collected target granted old.flow new.flow pumped)
      → (old.last ≢ More → (new ≡ old) × (pumped ≡ record { moved = 0; end = old.last }))
      → new.last ≡ pumped.end → IsReceiving remaining collected before octets old → IsReceiving remaining collected before octets new
  receiving_by_last More granted old new pumped before octets is moves over last receiving =
      receiving_by_end pumped.end granted old new pumped before octets (moves is) receiving is last refl
  receiving_by_last Ended granted old new pumped before octets is moves over last receiving =
      subst (IsReceiving remaining collected before octets) (sym (over (λ e. let h : Ended ≡ More = sym is ∙ e in cc)).0) receiving
  receiving_by_last ReadFault granted old new pumped before octets is moves over last receiving =
      subst (IsReceiving remaining collected before octets) (sym (over (λ e. let h : ReadFault ≡ More = sym is ∙ e in cc)).0) receiving
  receiving_by_last WriteFault granted old new pumped before octets is moves over last receiving =
      subst (IsReceiving remaining collected before octets) (sym (over (λ e. let h : WriteFault ≡ More = sym is ∙ e in cc)).0) receiving
  receiving_by_last Memory granted old new pumped before octets is moves over last receiving =
      subst (IsReceiving remaining collected before octets) (sym (over (λ e. let h : Memory ≡ More = sym is ∙ e in cc)).0) receiving

  pub receiving_pumped : (granted : ℕ) (old new : InView K X) (pumped : Pumped) (before octets : List ℕ)
      → (old.last ≡ More → MovesIn remaining collected target granted old.flow new.flow pumped)
      → (old.last ≢ More → (new ≡ old) × (pumped ≡ record { moved = 0; end = old.last }))
      → new.last ≡ pumped.end → IsReceiving remaining collected before octets old → IsReceiving remaining collected before octets new
  receiving_pumped granted old new pumped before octets moves over last receiving =
      receiving_by_last old.last granted old new pumped before octets refl moves over last receiving

  -- the same upload under another name
  pub moves_from : (granted : ℕ) (seen old new : InFlow K X) (pumped : Pumped) → seen ≡ old
      → MovesIn remaining collected target granted seen new pumped → MovesIn remaining collected target granted old new pumped
  moves_from granted seen old new pumped same moves = subst (λ (u : InFlow K X). MovesIn remaining collected target granted u new pumped) same moves

  -- a grant of nothing
  pub moves_none : (granted : ℕ) (flow : InFlow K X) → granted ≡ 0
      → MovesIn remaining collected target granted flow flow (record { moved = 0; end = More })
  moves_none granted flow none = record {
    most = omega arith;
    read = [];
    count = refl;
    consumed = Consumes-nil (remaining flow.connection);
    no_call = λ e. (refl, refl);
    once = λ some. absurd (omega (arith, some, none));
    lent = λ some. absurd (omega (arith, some, none));
    reads_failed = refl;
    writes_once = inl refl;
    writes_failed = refl;
    some = λ e some. absurd (omega (arith, some, none));
    given = λ e. record { text = []; meant = receives_none flow.data_type flow.held; appended = Appends-nil (collected flow.sink) };
    ended = λ e. absurd (let h : More ≡ Ended = e in cc);
    failed = λ e. absurd (let h : More ≡ ReadFault = e in cc);
    refused = λ e. refl;
    same_target = refl;
    same_type = refl;
  }
