use Rattle.std.proofs.Common.{◌≡◌, ◌++◌, ℕ, List, [], take, drop, Option, Some, None, sym, ap, ◌∙◌, subst, append_assoc, append-nil, take-append-drop}
use Rattle.std.specs.Io.KnownBytes.{Consumes, IsAtEnd}
use Rattle.ftp_terms.specs.declared.data_type.DataType.{DataType}
use Rattle.data_pump.specs.declared.pumped.Pumped.{Pumped}
use Rattle.data_pump.specs.WireText.{sent}
use Rattle.data_pump.specs.Downloads.{OutFlow, MovesOut, TopsUp, IsSending, still_to_come, to_come}
use Rattle.data_pump.proofs.KnownLemmas.{known-appended, known-consumed, known-kept, known-at_end}

-- the first octets that wait were the first to come
pub to_come-consume : (data_type : DataType) (n : ℕ) (waiting : List ℕ) (known : Option (List ℕ))
    → Consumes (still_to_come data_type waiting known) (still_to_come data_type (drop n waiting) known) (take n waiting)
to_come-consume data_type n waiting None = tt
to_come-consume data_type n waiting (Some octets) =
    ap (λ l. l ++ sent data_type octets) (sym (take-append-drop n waiting)) ∙ append_assoc (take n waiting) (drop n waiting) (sent data_type octets)

module _ {S K : Type 0} (remaining : S → Option (List ℕ)) (contents : K → Option (List ℕ)) where
  pub sending_moved : (octets : ℕ) (old new : OutFlow S K) (pumped : Pumped) (before text : List ℕ)
      → MovesOut remaining contents octets old new pumped → IsSending remaining contents before text old
      → IsSending remaining contents before text new
  sending_moved octets old new pumped before text moves sending =
      let moved = take pumped.moved old.waiting in
      let left = known-consumed (to_come remaining old) (to_come remaining new) sending.rest moved sending.comes moves.come in
      record {
        written = sending.written ++ moved;
        rest = left.rest;
        holds =
            known-appended (contents old.connection) (contents new.connection) (before ++ sending.written) moved sending.holds moves.written
            ∙ ap Some (append_assoc before sending.written moved);
        comes = left.known;
        whole = sending.whole ∙ (ap (λ l. sending.written ++ l) left.whole ∙ sym (append_assoc sending.written moved left.rest));
      }

  pub sending_ended : (out : OutFlow S K) (before text : List ℕ) → IsSending remaining contents before text out
      → IsAtEnd (to_come remaining out) → contents out.connection ≡ Some (before ++ text)
  sending_ended out before text sending ended =
      let none : sending.rest ≡ [] = known-at_end (to_come remaining out) sending.rest sending.comes ended in
      let all : text ≡ sending.written = sending.whole ∙ (ap (λ l. sending.written ++ l) none ∙ append-nil sending.written) in
      sending.holds ∙ ap (λ l. Some (before ++ l)) (sym all)

  pub sending_topped : (old new : OutFlow S K) (before text : List ℕ) → TopsUp remaining old new → IsSending remaining contents before text old → IsSending remaining contents before text new
  sending_topped old new before text tops sending = record {
    written = sending.written;
    rest = sending.rest;
    holds = ap contents tops.connection.0 ∙ sending.holds;
    comes = known-kept (to_come remaining old) (to_come remaining new) sending.rest sending.comes tops.come;
    whole = sending.whole;
  }

  -- the same download under another name
  pub moves_from : (octets : ℕ) (seen old new : OutFlow S K) (pumped : Pumped) → seen ≡ old
      → MovesOut remaining contents octets seen new pumped → MovesOut remaining contents octets old new pumped
  moves_from octets seen old new pumped same moves = subst (λ (d : OutFlow S K). MovesOut remaining contents octets d new pumped) same moves
