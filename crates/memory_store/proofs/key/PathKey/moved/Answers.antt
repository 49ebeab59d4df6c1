use Rattle.std.proofs.Common.{◌≡◌, ◌≢◌, ◌∙◌, sym, ap, [], ◌∷◌, ◌++◌, length, drop, string_bytes}
use Rattle.std.proofs.lemmas.Result.{IfOk-weaker}
use Rattle.virtual_path.specs.Path.{Path, names_in, HasNoSlash}
use Rattle.virtual_path.proofs.Elements.{each-drop}
use Rattle.memory_store.specs.Tree.{last_of}
use Rattle.memory_store.proofs.Moves.{equal_keys, unequal_keys, moved_itself, stays, goes_along}
use Rattle.memory_store.proofs.PathKeys.{plain_names, names_of_text, text_kept}
use Rattle.memory_store.proofs.key.PathKey.moved.Goals as goal

pub returns-then-eq : goal.returns-then-eq
returns-then-eq g c =
    IfOk-weaker c.copy.result _ _ (λ key same. same ∙ c.requires.afterwards
    ∙ moved_itself c.args.from.now c.args.to.now c.args.self.now (sym c.requires.before ∙ equal_keys c.args.before.now c.args.self.now (sym c.eq.ensures ∙ c.if-eq.true))) c.copy.ensures

pub moved_under-requires-clause-to : goal.moved_under-requires-clause-to
moved_under-requires-clause-to g c = text_kept c.args.to.now c.directory_text-in-Some.result.now c.directory_text-in-Some.ensures.names c.directory_text-in-Some.ensures.text

pub moved_under-requires-clause-rest : goal.moved_under-requires-clause-rest
moved_under-requires-clause-rest g c =
    let above = names_in (string_bytes c.self.inside.directory) in
    let is = c.in-Some.ensures c.args.from.now above c.directory_text.ensures.names (plain_names (string_bytes c.self.inside.directory)) c.directory_text.ensures.text (c.as_str.ensures.value ∙ sym c.self.invariant.slashes) in
    text_kept (drop (length c.args.from.now) above) c.in-Some.rest.now (each-drop HasNoSlash (length c.args.from.now) above (plain_names (string_bytes c.self.inside.directory))) is.1

pub returns-in-None : goal.returns-in-None
returns-in-None g c =
    let above = names_in (string_bytes c.self.inside.directory) in
    let is = c.in-None.ensures c.args.from.now above c.directory_text.ensures.names (plain_names (string_bytes c.self.inside.directory)) c.directory_text.ensures.text (c.as_str.ensures.value ∙ sym c.self.invariant.slashes) in
    let other : c.args.from.now ≢ c.args.self.now = λ e. unequal_keys c.args.before.now c.args.self.now (sym c.eq.ensures ∙ c.if-eq.false) (c.requires.before ∙ e) in
    IfOk-weaker c.copy-in-None.result _ _ (λ key same. same ∙ stays c.args.from.now c.args.to.now above (string_bytes c.self.inside.name) c.args.self.now c.self.view_is other is) c.copy-in-None.ensures

pub returns-in-Some : goal.returns-in-Some
returns-in-Some g c =
    let above = names_in (string_bytes c.self.inside.directory) in
    let is = c.in-Some.ensures c.args.from.now above c.directory_text.ensures.names (plain_names (string_bytes c.self.inside.directory)) c.directory_text.ensures.text (c.as_str.ensures.value ∙ sym c.self.invariant.slashes) in
    let other : c.args.from.now ≢ c.args.self.now = λ e. unequal_keys c.args.before.now c.args.self.now (sym c.eq.ensures ∙ c.if-eq.false) (c.requires.before ∙ e) in
    let rest : names_in c.in-Some.rest.now ≡ drop (length c.args.from.now) above =
    names_of_text (drop (length c.args.from.now) above) c.in-Some.rest.now (each-drop HasNoSlash (length c.args.from.now) above (plain_names (string_bytes c.self.inside.directory))) is.1 in
    IfOk-weaker c.moved_under.result _ _ (λ key same. same
    ∙ ap (λ (p : Path). (p ++ names_in c.in-Some.rest.now) ++ last_of c.args.self.now ∷ []) (names_of_text c.args.to.now c.directory_text-in-Some.result.now c.directory_text-in-Some.ensures.names c.directory_text-in-Some.ensures.text)
    ∙ ap (λ (p : Path). (c.args.to.now ++ p) ++ last_of c.args.self.now ∷ []) rest
    ∙ goes_along c.args.from.now c.args.to.now above (string_bytes c.self.inside.name) c.args.self.now c.self.view_is other is.0) c.moved_under.ensures
