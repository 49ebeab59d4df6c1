-- What a connection has sent is an outcome of what it has received.
use Rattle.std.proofs.Common.{◌≡◌, ◌≢◌, ◌⊎◌, ◌++◌, ◌∷◌, ◌∙◌, ◌&&◌, ℕ, Bool, true, false, not, List, [], codes, Option, Some, None, Result, Ok, Err, OnOk, refl, sym, ap, subst, append-nil, arith, inl, inr}
use Rattle.std.proofs.Math.Logic.{∥∥₁_map}
use Rattle.std.proofs.lemmas.List.{nil_from_length}
use Rattle.http.specs.declared.request.Request.{Request}
use Rattle.httparse.specs.Grammar.{RequestHead, trim_ows}
use Rattle.http1.specs.Fields.{Header, elements, known_fields}
use Rattle.http1.specs.Conn.{keeps_alive}
use Rattle.http1.specs.Message.{known_of}
use Rattle.http1.specs.Text.{eq_ignore_case}
use Rattle.http_server.specs.declared.response.Response.{Response}
use Rattle.http_server.specs.declared.state.Config.{Config}
use Rattle.http_server.specs.declared.state.State.{State}
use Rattle.http_server.specs.declared.state.State.TheVariants.{Open, Closing, Upgraded, Aborted}
use Rattle.http_server.specs.declared.state.Reason.TheVariants.{Asked, EndOfInput, Refused}
use Rattle.http_server.specs.declared.state.Refusal.{Refusal}
use Rattle.http_server.specs.declared.state.Refusal.TheVariants.{Truncated, Unreadable, BodyTooLarge, InvalidPart, InvalidHost, UnknownCoding, InvalidResponse}
use Rattle.http_server.specs.Exchange.{Call, Calls, Chain, Exchanges, IsInterim, Serves, keeps_open}
use Rattle.http_server.specs.History.{History, IsDone, IsServed, Justifies, Stands, new_history, output}
use Rattle.http_server.specs.Response.{fields_of}
use Rattle.http.specs.Request.{head_of}
use Rattle.http_uri.specs.Uri.{uri_path}
use Rattle.status_page.specs.Answers.{Answers, IsHosted, IsRouted, IsShown, Shown, is_read, route_of}
use Rattle.status_page.specs.Hosts.{is_own_request}
use Rattle.status_page.specs.Exchanges.{IsAnswered, IsOutcome}
use Rattle.status_page.specs.declared.routes.Route.{Route}
use Rattle.status_page.specs.declared.routes.Route.TheVariants.{Page, Json, Metrics}
use Rattle.status_page.specs.declared.serving.TheConstants.{CONFIG}

-- ---- each answer asks to close, and is no upgrade

first_closes : (more : List Header) → (known_fields ((codes "connection", codes "close") ∷ more)).close ≡ true
unfolding known_fields elements trim_ows eq_ignore_case
first_closes more = refl

-- what every answer has
pub record IsFinal (r : Response) : Type 0 where
  pub closes : (known_fields (fields_of r)).close ≡ true
  pub status : r.status ≢ 101

final_of : (r : Response) (more : List Header) → fields_of r ≡ (codes "connection", codes "close") ∷ more → r.status ≢ 101 → IsFinal r
final_of r more fields status = record {
  closes = subst (λ (headers : List Header). (known_fields headers).close ≡ true) (sym fields) (first_closes more);
  status = status;
}

shown_final : (shown : Shown) (route : Route) (r : Response) → IsShown shown route r → IsFinal r
shown_final shown Page r is = final_of r _ is.headers (λ e. absurd (omega (arith, e, is.status)))
shown_final shown Json r is = final_of r _ is.2.headers (λ e. absurd (omega (arith, e, is.2.status)))
shown_final shown Metrics r is = final_of r _ is.headers (λ e. absurd (omega (arith, e, is.status)))

routed_final : (shown : Shown) (route : Option Route) (read : Bool) (r : Response) → IsRouted shown route read r → IsFinal r
routed_final shown None read r is = final_of r _ is.headers (λ e. absurd (omega (arith, e, is.status)))
routed_final shown (Some route) false r is = final_of r _ is.headers (λ e. absurd (omega (arith, e, is.status)))
routed_final shown (Some route) true r is = shown_final shown route r is

hosted_final : (shown : Shown) (own : Bool) (route : Option Route) (read : Bool) (r : Response) → IsHosted shown own route read r → IsFinal r
hosted_final shown false route read r is = final_of r _ is.headers (λ e. absurd (omega (arith, e, is.status)))
hosted_final shown true route read r is = routed_final shown route read r is

answer_final : (shown : Shown) (q : Request (List ℕ)) (r : Response) → Answers shown q r → IsFinal r
answer_final shown q r is = hosted_final shown (is_own_request q) (route_of (uri_path (head_of q).uri)) (is_read (head_of q).method) r is

-- ---- no call was answered before the last

and_false : (b c : Bool) → c ≡ true → (b && not c) ≡ false
and_false true true e = refl
and_false false true e = refl
and_false b false e = absurd (cc)

not_open : (head : RequestHead) (r : Response) → IsFinal r → keeps_open head r ≡ true → ⊥
not_open head r final stays =
    let shut = and_false (keeps_alive head.minor (known_of head.fields)) (known_fields (fields_of r)).close final.closes in
    absurd (cc)

-- ---- the calls of a history

refused_calls : (why : Refusal) (h : History) (answered : List Call) (rest : List ℕ) → Justifies why CONFIG h answered rest → (more : List Call) × (h.calls ≡ answered ++ more)
refused_calls Truncated h answered rest j = ([], j.0 ∙ sym (append-nil answered))
refused_calls (Unreadable e) h answered rest j = ([], j.0 ∙ sym (append-nil answered))
refused_calls BodyTooLarge h answered rest j = ([], j.0 ∙ sym (append-nil answered))
refused_calls (InvalidPart e) h answered rest j = ([], j.0 ∙ sym (append-nil answered))
refused_calls InvalidHost h answered rest j = ([], j.0 ∙ sym (append-nil answered))
refused_calls UnknownCoding h answered rest j = ([], j.0 ∙ sym (append-nil answered))
refused_calls (InvalidResponse e) h answered rest j = (j.1.call ∷ [], j.1.calls)

aborted_calls : (h : History) (answered : List Call) → (h.calls ≡ answered) ⊎ ((c : Call) × (h.calls ≡ answered ++ c ∷ [])) → (more : List Call) × (h.calls ≡ answered ++ more)
aborted_calls h answered (inl e) = ([], e ∙ sym (append-nil answered))
aborted_calls h answered (inr t) = (t.0 ∷ [], t.1)

when_ok : {A E : Type 0} (r : Result A E) (P Q : Type 0) → (P → Q) → OnOk r P → OnOk r Q
when_ok (Ok u) P Q f p = f p
when_ok (Err e) P Q f p = p

module _ {S : Type 0} (answers : S → Request (List ℕ) → Response → S → Type 0) (old new : S) (shown : Shown) (each : (next : S) (q : Request (List ℕ)) (r : Response) → answers old q r next → Answers shown q r) where
  first_answers : (calls : List Call) (c : Call) (more : List Call) → calls ≡ c ∷ more → Chain answers old calls new → Answers shown c.0 c.1
  first_answers calls c more is chain = let t = subst (λ (cs : List Call). Chain answers old cs new) is chain in each t.0 c.0 c.1 t.1

  none_before : (calls : List Call) → Chain answers old calls new → (answered more : List Call) → calls ≡ answered ++ more → (stream text rest : List ℕ) → Serves CONFIG stream answered text rest → answered ≡ []
  none_before calls chain [] more is stream text rest serves = refl
  none_before calls chain (c ∷ answered) more is stream text rest serves =
      let e = serves.4 in
      absurd (not_open e.message.head c.1 (answer_final shown c.0 c.1 (first_answers calls c (answered ++ more) is chain)) e.persists)

  -- the calls are those that were answered, and at most one more
  more_calls : (s : State) (h : History) (answered : List Call) (text interim rest : List ℕ) → Stands s CONFIG h answered text interim rest → (more : List Call) × (h.calls ≡ answered ++ more)
  more_calls Open h answered text interim rest stands = ([], stands.0 ∙ sym (append-nil answered))
  more_calls (Closing Asked) h answered text interim rest stands = (stands.0 ∷ [], stands.4)
  more_calls (Closing EndOfInput) h answered text interim rest stands = ([], stands.0 ∙ sym (append-nil answered))
  more_calls (Closing (Refused why)) h answered text interim rest stands = refused_calls why h answered rest stands.0
  more_calls Upgraded h answered text interim rest stands = (stands.last.call ∷ [], stands.last.calls)
  more_calls Aborted h answered text interim rest stands = aborted_calls h answered stands.calls

  -- what is found of a connection: what it sent and lost is an outcome of what it received
  pub record IsFound (h : History) : Type 0 where
    pub lost : List ℕ
    pub outcome : IsOutcome shown h.received (h.sent ++ lost)
    pub whole : IsDone h → lost ≡ []

  found : (s : State) (h : History) (interim : List ℕ) → h.state ≡ s → Chain answers old h.calls new → IsInterim CONFIG.limits h.received interim → Stands s CONFIG h [] [] interim h.received → IsFound h
  found Open h interim is chain invited stands = record {
    lost = h.pending;
    outcome = inr (inr ([], subst (IsInterim CONFIG.limits h.received) (sym (append-nil (output h) ∙ stands.1)) invited));
    whole = λ done. absurd (done.0 is);
  }
  found (Closing Asked) h interim is chain invited stands = record {
    lost = h.pending;
    outcome = inl (record {
      call = stands.0;
      answers = first_answers h.calls stands.0 [] stands.4 chain;
      rest = stands.2;
      exchanges = subst (λ (sent : List ℕ). Exchanges CONFIG false h.received stands.0 sent stands.2) (sym stands.5) stands.3;
    });
    whole = λ done. nil_from_length h.pending done.1;
  }
  found (Closing EndOfInput) h interim is chain invited stands = record {
    lost = h.pending;
    outcome = inr (inr ([], inl (append-nil (output h) ∙ stands.3)));
    whole = λ done. nil_from_length h.pending done.1;
  }
  found (Closing (Refused why)) h interim is chain invited stands = record {
    lost = h.pending;
    outcome = inr (inl (record { why = why; history = h; justifies = stands.0; interim = interim; is_interim = invited; text = stands.1 }));
    whole = λ done. nil_from_length h.pending done.1;
  }
  found Upgraded h interim is chain invited stands =
      absurd ((answer_final shown stands.last.call.0 stands.last.call.1 (first_answers h.calls stands.last.call [] stands.last.calls chain)).status stands.accepted)
  found Aborted h interim is chain invited stands = record {
    lost = [];
    outcome = inr (inr (stands.lost, subst (IsInterim CONFIG.limits h.received) (sym (ap (λ (sent : List ℕ). sent ++ stands.lost) (append-nil h.sent) ∙ stands.sent)) invited));
    whole = λ done. refl;
  }

  pub outcome_of : (h : History) → Chain answers old h.calls new → IsServed CONFIG h → IsFound h
  outcome_of h chain is =
      let more = more_calls h.state h is.answered is.text is.interim is.rest is.stands in
      let none = none_before h.calls chain is.answered more.0 more.1 h.received is.text is.rest is.serves in
      let serves : Serves CONFIG h.received [] is.text is.rest = subst (λ (cs : List Call). Serves CONFIG h.received cs is.text is.rest) none is.serves in
      let stands : Stands h.state CONFIG h [] is.text is.interim is.rest = subst (λ (cs : List Call). Stands h.state CONFIG h cs is.text is.interim is.rest) none is.stands in
      let plain : Stands h.state CONFIG h [] [] is.interim is.rest = subst (λ (text : List ℕ). Stands h.state CONFIG h [] text is.interim is.rest) serves.1 stands in
      let all : Stands h.state CONFIG h [] [] is.interim h.received = subst (λ (rest : List ℕ). Stands h.state CONFIG h [] [] is.interim rest) (sym serves.0) plain in
      found h.state h is.interim refl chain (subst (λ (rest : List ℕ). IsInterim CONFIG.limits rest is.interim) (sym serves.0) is.is_interim) all

  -- how a connection went on from one history to another
  pub record GoesOn (Reads Writes : List ℕ → Type 0) (h0 h : History) : Type 0 where
    pub read : (more : List ℕ) × Reads more × (h.received ≡ h0.received ++ more)
    pub written : (more : List ℕ) × Writes more × (h.sent ≡ h0.sent ++ more)
    pub calls : Calls answers old new h0.calls h.calls

  from_new : {A E : Type 0} (Reads Writes : List ℕ → Type 0) (result : Result A E) (h : History) → GoesOn Reads Writes new_history h → OnOk result (IsDone h) → IsServed CONFIG h → IsAnswered shown Reads Writes result
  from_new Reads Writes result h on done is =
      let found = outcome_of h (subst (λ (cs : List Call). Chain answers old cs new) (sym on.calls.1) on.calls.2) is in
      record {
        input = h.received;
        reads = subst Reads (sym on.read.2) on.read.1;
        output = h.sent;
        writes = subst Writes (sym on.written.2) on.written.1;
        lost = found.lost;
        whole = when_ok result _ _ found.whole done;
        outcome = found.outcome;
      }

  -- a new connection that went on has answered
  pub answered : {A E : Type 0} (Reads Writes : List ℕ → Type 0) (result : Result A E) (h0 h : History) → h0 ≡ new_history → GoesOn Reads Writes h0 h → OnOk result (IsDone h) → (config : Config) → config ≡ CONFIG → ∥ IsServed config h ∥₁ → ∥ IsAnswered shown Reads Writes result ∥₁
  answered Reads Writes result h0 h begun on done config is served =
      ∥∥₁_map (subst (λ (c : Config). ∥ IsServed c h ∥₁) is served) (from_new Reads Writes result h (subst (λ (start : History). GoesOn Reads Writes start h) begun on) done)
