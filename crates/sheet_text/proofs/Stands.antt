-- One name further along the text of a path.
use Rattle.std.proofs.Common.{◌≡◌, ◌∙◌, ℕ, zero, suc, ◌<◌, ◌≤◌, ◌+◌, ◌-◌, ◌||◌, Bool, true, false, cond, List, [], ◌∷◌, ◌++◌, length, take, drop, get_or, refl, sym, ap, subst, arith, Option, Some, None, length-append, append-nil, append_assoc, count_by, eq-eqb, eqb-true, ne_eqb, nat_lt, ◌==◌, ◌&&◌, Ok, Err}
use Rattle.std.specs.List.{list_any}
use Rattle.std.specs.Option.{is_some, option_map}
use Rattle.std.proofs.Math.ListN.{drop_of_length-le}
use Rattle.std.proofs.lemmas.List.Folds.{list_any-append}
use Rattle.std.proofs.lemmas.List.Splits.{length-slice_split}
use Rattle.std.proofs.lemmas.List.Sums.{sum_by-cons}
use Rattle.std.proofs.Math.Seq.{drop-cons, take-add, get_or-append_seam}
use Rattle.std.proofs.lemmas.List.{take_all, drop-drop, length-drop, get_or-drop, map-append}
use Rattle.std.proofs.lemmas.Bool.{eqb-false, true≢false, false_from_ne_true}
use Rattle.limit_tree.specs.Outline.{is_leaf_kind}
use Rattle.limit_tree.specs.Faults.{or_else}
use Rattle.limit_tree.specs.declared.place.NodeKind.{NodeKind}
use Rattle.limit_tree.specs.declared.fault.TreeFault.{TreeFault}
use Rattle.limit_tree.specs.declared.fault.TreeFault.TheVariants.{TooDeep}
use Rattle.limit_tree.specs.declared.bounds.TheConstants.{MAX_DEPTH}
use Rattle.sheet_text.specs.declared.fault.SheetFault.{SheetFault}
use Rattle.sheet_text.specs.declared.fault.SheetFault.TheVariants.{Twice, LeafHasKids, Tree}
use Rattle.sheet_text.specs.declared.walk.Walk.{Walk}
use Rattle.sheet_text.specs.Paths.{Path, above, is_within, names_of, parts, place_of, same_path, text_of, IsPathText}
use Rattle.sheet_text.proofs.Texts.{text_is}
use Rattle.sheet_text.proofs.Within.{is_same}
use Rattle.sheet_text.proofs.Listing.{found_at, place_some, place_none, not_among}
use Rattle.sheet_text.specs.Table.{Mention, Table, has_line, is_at, is_mentioned, is_want, mention_all, mention_at, noted, path_at, paths_in, place_fault, size_fault, taken, taken_unless, unstated, want_count}
use Rattle.sheet_text.specs.Mentions.{Entry}
use Rattle.sheet_text.specs.Inside.{IsTable}
use Rattle.sheet_text.specs.Walks.{IsFresh, IsStand, IsWalk, fault_shown, grown, walked}
use Rattle.sheet_text.proofs.Cuts.{names_more}
use Rattle.sheet_text.proofs.Tables.{count, none_at, only_at, place_at, there_at}
use Rattle.sheet_text.proofs.Walked.{IsKnown, among_push, grown_length, longer, nothing_in, walk_known, within_more}

abbrev pub rest_at : List ℕ → ℕ → List ℕ
rest_at t at = take (length t - (at + 1)) (drop (at + 1) t)

-- so many octets are the first name of a text
pub record IsName (rest : List ℕ) (n : ℕ) : Type 0 where
  pub name : parts 47 rest ≡ take n rest ∷ names_of (drop n rest)
  pub alone : parts 47 (take n rest) ≡ take n rest ∷ []
  pub within : n ≤ length rest
  pub slash : n < length rest → get_or rest n 0 ≡ 47

pub record IsStep (path : List ℕ) (at n : ℕ) : Type 0 where
  pub end_in : at + 1 + n ≤ length path
  pub slash : at + 1 + n < length path → get_or path (at + 1 + n) 0 ≡ 47
  pub here : names_of (drop at path) ≡ take n (drop (at + 1) path) ∷ names_of (drop (at + 1 + n) path)
  pub front : names_of (take (at + 1 + n) path) ≡ names_of (take at path) ++ take n (drop (at + 1) path) ∷ []

pub rest_is : (t path : List ℕ) (at : ℕ) → t ≡ path → rest_at t at ≡ drop (at + 1) path
rest_is t path at same = take_all (length t - (at + 1)) (drop (at + 1) t) (omega (arith, length-drop (at + 1) t)) ∙ ap (drop (at + 1)) same

pub behind_is : (t path : List ℕ) (at : ℕ) → t ≡ path → take (length t - at) (drop at t) ≡ drop at path
behind_is t path at same = take_all (length t - at) (drop at t) (omega (arith, length-drop at t)) ∙ ap (drop at) same

pub one_step : (t path : List ℕ) (at n : ℕ) → t ≡ path → at < length path → get_or path at 0 ≡ 47 → IsName (rest_at t at) n → IsStep path at n
one_step t path at n same less slash is = step (subst (λ (r : List ℕ). IsName r n) (rest_is t path at same) is)
  where
    step : IsName (drop (at + 1) path) n → IsStep path at n
    step named =
        let many : length (drop (at + 1) path) ≡ length path - (at + 1) = length-drop (at + 1) path in
        let next : suc at ≡ at + 1 = omega arith in
        let cut : drop at path ≡ 47 ∷ drop (at + 1) path = drop-cons path at 0 less ∙ ap (λ (o : ℕ). o ∷ drop (suc at) path) slash ∙ ap (λ (k : ℕ). 47 ∷ drop k path) next in
        record {
          end_in = omega (arith, named.within, many);
          slash = λ l. sym (get_or-drop (at + 1) path n 0) ∙ named.slash (omega (arith, l, many));
          here = ap names_of cut ∙ named.name ∙ ap (λ (r : List ℕ). take n (drop (at + 1) path) ∷ names_of r) (drop-drop n (at + 1) path);
          front = ap names_of (front_text cut) ∙ names_more (take at path) (take n (drop (at + 1) path)) named.alone;
        }
      where
        front_text : drop at path ≡ 47 ∷ drop (at + 1) path → take (at + 1 + n) path ≡ take at path ++ 47 ∷ take n (drop (at + 1) path)
        front_text cut =
            let more : at + 1 + n ≡ at + suc n = omega arith in
            ap (λ (k : ℕ). take k path) more ∙ take-add at (suc n) path ∙ ap (λ (r : List ℕ). take at path ++ take (suc n) r) cut

-- a kid that is there
pub walk_on : (table : Table) (path : List ℕ) (place at n kid : ℕ) → IsStand table path place at → IsStep path at n → place_of (paths_in table) (path_at table place ++ take n (drop (at + 1) path) ∷ []) ≡ Some kid → IsStand table path kid (at + 1 + n)
walk_on table path place at n kid stand step found =
    let is = found_at (path_at table place ++ take n (drop (at + 1) path) ∷ []) (paths_in table) kid found in
    record {
      place_in = omega (arith, is.0, count table);
      at_in = step.end_in;
      front = is.1 ∙ ap (λ (p : Path). p ++ take n (drop (at + 1) path) ∷ []) stand.front ∙ sym step.front;
      slash = step.slash;
    }

pub want_here : (table : Table) (place : ℕ) → IsTable table → place < length table → is_want table (path_at table place) ≡ is_leaf_kind (mention_at table place).kind
want_here table place is l = only_at (λ (m : Mention). is_leaf_kind m.kind) table place is.names.once l

pub walked_on : (table : Table) (path : List ℕ) (place at n kid : ℕ) (under passed : Bool) → IsTable table → IsStand table path place at → IsStep path at n → place_of (paths_in table) (path_at table place ++ take n (drop (at + 1) path) ∷ []) ≡ Some kid
    → passed ≡ (under || is_leaf_kind (mention_at table place).kind) → walked table (path_at table place) under (names_of (drop at path)) ≡ walked table (path_at table kid) passed (names_of (drop (at + 1 + n) path))
walked_on table path place at n kid under passed is stand step found pass =
    let name = take n (drop (at + 1) path) in
    let there : is_mentioned table (path_at table place ++ name ∷ []) ≡ true = place_some (paths_in table) (path_at table place ++ name ∷ []) kid found in
    let at_kid = found_at (path_at table place ++ name ∷ []) (paths_in table) kid found in
    let rest = names_of (drop (at + 1 + n) path) in
    ap (walked table (path_at table place) under) step.here
    ∙ ap (λ (b : Bool). cond b (walked table (path_at table place ++ name ∷ []) (under || is_want table (path_at table place)) rest) (record { front = path_at table place; left = name ∷ rest; under = under || is_want table (path_at table place) })) there
    ∙ ap (λ (p : Path). walked table p (under || is_want table (path_at table place)) rest) (sym at_kid.1)
    ∙ ap (λ (b : Bool). walked table (path_at table kid) b rest) (ap (λ (b : Bool). under || b) (want_here table place is stand.place_in) ∙ sym pass)

pub walked_out : (table : Table) (path : List ℕ) (place at n : ℕ) (under passed : Bool) → IsTable table → IsStand table path place at → IsStep path at n → place_of (paths_in table) (path_at table place ++ take n (drop (at + 1) path) ∷ []) ≡ None
    → passed ≡ (under || is_leaf_kind (mention_at table place).kind) → walked table (path_at table place) under (names_of (drop at path)) ≡ record { front = path_at table place; left = names_of (drop at path); under = passed }
walked_out table path place at n under passed is stand step none pass =
    let name = take n (drop (at + 1) path) in
    let absent : is_mentioned table (path_at table place ++ name ∷ []) ≡ false = not_among (paths_in table) (path_at table place ++ name ∷ []) none in
    let rest = names_of (drop (at + 1 + n) path) in
    ap (walked table (path_at table place) under) step.here
    ∙ ap (λ (b : Bool). cond b (walked table (path_at table place ++ name ∷ []) (under || is_want table (path_at table place)) rest) (record { front = path_at table place; left = name ∷ rest; under = under || is_want table (path_at table place) })) absent
    ∙ ap (λ (ns : Path). record { front = path_at table place; left = ns; under = under || is_want table (path_at table place) }) (sym step.here)
    ∙ ap (λ (b : Bool). record { front = path_at table place; left = names_of (drop at path); under = b }) (ap (λ (b : Bool). under || b) (want_here table place is stand.place_in) ∙ sym pass)

-- a path's text is that of its names
pub text_here : (text : List ℕ) → IsPathText text → text_of (names_of text) ≡ text
text_here [] is = refl
text_here (octet ∷ rest) is =
    let slash : octet ≡ 47 = is (omega arith) in
    text_is rest ∙ ap (λ (o : ℕ). o ∷ rest) (sym slash)

none_taken : (text : List ℕ) (n : ℕ) → length text ≡ 0 → length (take n text) ≡ 0
none_taken [] zero e = refl
none_taken [] (suc n) e = refl
none_taken (x ∷ xs) n e = absurd (omega (arith, e))

pub text_taken : (text : List ℕ) (n : ℕ) → IsPathText text → IsPathText (take n text)
text_taken [] n is l = absurd (omega (arith, none_taken [] n refl))
text_taken (octet ∷ rest) zero is l = absurd (omega arith)
text_taken (octet ∷ rest) (suc n) is l = is (omega arith)

-- what is needed to push the next name
pub next_absent : (table : Table) (path : List ℕ) (place at n : ℕ) → IsStep path at n → IsFresh table (path_at table place) (names_of (drop at path)) → place_of (paths_in table) (path_at table place ++ take n (drop (at + 1) path) ∷ []) ≡ None
next_absent table path place at n step fresh =
    let name = take n (drop (at + 1) path) in
    let absent : IsFresh table (path_at table place) (name ∷ names_of (drop (at + 1 + n) path)) = subst (IsFresh table (path_at table place)) step.here fresh in
    place_none (paths_in table) (path_at table place ++ name ∷ []) absent

path_last : (table : Table) (kid : Path) → path_at (table ++ unstated kid ∷ []) (length table) ≡ kid
path_last table kid =
    ap (λ (ps : List Path). get_or ps (length table) []) (map-append (λ (m : Mention). m.path) table (unstated kid ∷ []))
    ∙ ap (λ (k : ℕ). get_or (paths_in table ++ kid ∷ []) k []) (sym (count table)) ∙ get_or-append_seam (paths_in table) kid [] []

-- the stand behind a push
pub record IsGrown (table new : Table) (path : List ℕ) (place at n : ℕ) : Type 0 where
  pub stand : IsStand new path (length table) (at + 1 + n)
  pub fresh : IsFresh new (path_at new (length table)) (names_of (drop (at + 1 + n) path))
  pub grows : grown table (path_at table place) (names_of (drop at path)) ≡ grown new (path_at new (length table)) (names_of (drop (at + 1 + n) path))

pub push_on : (table new : Table) (path : List ℕ) (place at n : ℕ) → IsTable table → IsStand table path place at → IsStep path at n → IsFresh table (path_at table place) (names_of (drop at path))
    → new ≡ table ++ unstated (path_at table place ++ take n (drop (at + 1) path) ∷ []) ∷ [] → IsGrown table new path place at n
push_on table new path place at n is stand step fresh new_is = subst (λ (t : Table). IsGrown table t path place at n) (sym new_is) (record {
  stand = record {
    place_in = omega (arith, length-append table (unstated kid ∷ []));
    at_in = step.end_in;
    front = last ∙ ap (λ (p : Path). p ++ name ∷ []) stand.front ∙ sym step.front;
    slash = step.slash;
  };
  fresh = subst (λ (p : Path). IsFresh (table ++ unstated kid ∷ []) p (names_of (drop (at + 1 + n) path))) (sym last) (none (names_of (drop (at + 1 + n) path)));
  grows = ap (grown table (path_at table place)) step.here ∙ ap (λ (p : Path). grown (table ++ unstated kid ∷ []) p (names_of (drop (at + 1 + n) path))) (sym last);
})
  where
    name : List ℕ
    name = take n (drop (at + 1) path)

    kid : Path
    kid = path_at table place ++ take n (drop (at + 1) path) ∷ []

    last : path_at (table ++ unstated (path_at table place ++ take n (drop (at + 1) path) ∷ []) ∷ []) (length table) ≡ path_at table place ++ take n (drop (at + 1) path) ∷ []
    last = path_last table (path_at table place ++ take n (drop (at + 1) path) ∷ [])

    absent : is_mentioned table (path_at table place ++ take n (drop (at + 1) path) ∷ []) ≡ false
    absent = not_among (paths_in table) (path_at table place ++ take n (drop (at + 1) path) ∷ []) (next_absent table path place at n step fresh)

    none : (names : Path) → IsFresh (table ++ unstated (path_at table place ++ take n (drop (at + 1) path) ∷ []) ∷ []) (path_at table place ++ take n (drop (at + 1) path) ∷ []) names
    none [] = tt
    none (more ∷ names) =
        among_push table (path_at table place ++ take n (drop (at + 1) path) ∷ []) ((path_at table place ++ take n (drop (at + 1) path) ∷ []) ++ more ∷ [])
        ∙ ap (λ (b : Bool). b || same_path ((path_at table place ++ take n (drop (at + 1) path) ∷ []) ++ more ∷ []) (path_at table place ++ take n (drop (at + 1) path) ∷ []))
        (nothing_in table (path_at table place ++ take n (drop (at + 1) path) ∷ []) is.names absent ((path_at table place ++ take n (drop (at + 1) path) ∷ []) ++ more ∷ []) (within_more (path_at table place ++ take n (drop (at + 1) path) ∷ []) (more ∷ [])))
        ∙ false_from_ne_true (same_path ((path_at table place ++ take n (drop (at + 1) path) ∷ []) ++ more ∷ []) (path_at table place ++ take n (drop (at + 1) path) ∷ []))
        (λ e. let same : length ((path_at table place ++ take n (drop (at + 1) path) ∷ []) ++ more ∷ []) ≡ length (path_at table place ++ take n (drop (at + 1) path) ∷ []) = ap length (is_same ((path_at table place ++ take n (drop (at + 1) path) ∷ []) ++ more ∷ []) (path_at table place ++ take n (drop (at + 1) path) ∷ []) e) in
        absurd (omega (arith, same, longer (path_at table place ++ take n (drop (at + 1) path) ∷ []) more)))

-- how many names a path's text has
pub names_count : (text : List ℕ) → IsPathText text → length (names_of text) ≡ count_by (λ octet. octet == 47) text
names_count [] is = refl
names_count (octet ∷ rest) is =
    let slash : octet ≡ 47 = is (omega arith) in
    length-slice_split (λ (o : ℕ). o == 47) rest ∙ sym (sum_by-cons (λ (o : ℕ). cond (o == 47) 1 0) octet rest ∙ ap (λ (b : Bool). cond b 1 0 + count_by (λ o. o == 47) rest) (eq-eqb octet 47 slash) ∙ omega arith)

pub left_text : (table : Table) (text : List ℕ) (place at : ℕ) → IsStand table text place at → IsPathText (drop at text)
left_text table text place at stand l =
    let less : at < length text = omega (arith, l, length-drop at text) in
    let none : at + 0 ≡ at = omega arith in
    get_or-drop at text 0 0 ∙ ap (λ (k : ℕ). get_or text k 0) none ∙ stand.slash less

no_more : (front path name : Path) → front ++ name ≡ path → name ≡ [] → front ≡ path
no_more front path name e none = sym (append-nil front) ∙ ap (λ (ns : Path). front ++ ns) (sym none) ∙ e

-- what is known of a walk's end
pub walk_end : (table : Table) (text : List ℕ) (walk : Walk) → IsTable table → IsWalk table text walk → IsKnown table (names_of text) (path_at table walk.place) (names_of (drop walk.at text)) walk.under
walk_end table text walk is w = walk_known table (names_of text) (record { front = path_at table walk.place; left = names_of (drop walk.at text); under = walk.under }) is.names w.walked_is

-- whether the whole path is there
pub there_is : (table : Table) (text : List ℕ) (walk : Walk) (there : Bool) → IsTable table → IsWalk table text walk → there ≡ (walk.at == length text) → is_mentioned table (names_of text) ≡ there
there_is table text walk there is w e = go there e
  where
    known : IsKnown table (names_of text) (path_at table walk.place) (names_of (drop walk.at text)) walk.under
    known = walk_end table text walk is w

    absent : (left : Path) → 0 < length left → (path_at table walk.place) ++ left ≡ names_of text → IsFresh table (path_at table walk.place) left → is_mentioned table (names_of text) ≡ false
    absent [] l joins fresh = absurd (omega arith)
    absent (name ∷ more) l joins fresh =
        nothing_in table (path_at table walk.place ++ name ∷ []) is.names fresh (names_of text)
        (ap (is_within (path_at table walk.place ++ name ∷ [])) (sym (append_assoc (path_at table walk.place) (name ∷ []) more ∙ joins)) ∙ within_more (path_at table walk.place ++ name ∷ []) more)

    go : (b : Bool) → b ≡ (walk.at == length text) → is_mentioned table (names_of text) ≡ b
    go true f =
        let all : drop walk.at text ≡ [] = drop_of_length-le text (omega (arith, eqb-true walk.at (length text) (sym f))) in
        ap (is_mentioned table) (sym (no_more (path_at table walk.place) (names_of text) (names_of (drop walk.at text)) known.joins (ap names_of all))) ∙ there_at table walk.place w.stand.place_in
    go false f =
        let some : walk.at < length text = omega (arith, w.stand.at_in, eqb-false walk.at (length text) (sym f)) in
        let left : IsPathText (drop walk.at text) = left_text table text walk.place walk.at w.stand in
        let slash : 0 < length (drop walk.at text) = omega (arith, some, length-drop walk.at text) in
        absent (names_of (drop walk.at text)) (some_names (drop walk.at text) slash) known.joins known.fresh
      where
        some_names : (t : List ℕ) → 0 < length t → 0 < length (names_of t)
        some_names [] l = absurd (omega arith)
        some_names (o ∷ t) l = omega (arith, length-slice_split (λ (x : ℕ). x == 47) t)

-- where a walk ends that comes to the end of its text
pub ends_there : (table : Table) (text : List ℕ) (walk : Walk) → IsTable table → IsWalk table text walk → walk.at ≡ length text → path_at table walk.place ≡ names_of text
ends_there table text walk is w e =
    let all : drop walk.at text ≡ [] = drop_of_length-le text (omega (arith, e)) in
    no_more (path_at table walk.place) (names_of text) (names_of (drop walk.at text)) (walk_end table text walk is w).joins (ap names_of all)

-- the place of a path
pub place_found : (table : Table) (text : List ℕ) (walk : Walk) → IsTable table → IsWalk table text walk → length text ≤ walk.at → Some walk.place ≡ place_of (paths_in table) (names_of text)
place_found table text walk is w past =
    let all : walk.at ≡ length text = omega (arith, past, w.stand.at_in) in
    sym (ap (place_of (paths_in table)) (sym (ends_there table text walk is w all)) ∙ place_at (paths_in table) walk.place is.names.once (omega (arith, count table, w.stand.place_in)))

pub place_missing : (table : Table) (text : List ℕ) (walk : Walk) → IsTable table → IsWalk table text walk → walk.at < length text → None ≡ place_of (paths_in table) (names_of text)
place_missing table text walk is w short =
    let apart : (walk.at == length text) ≡ false = ne_eqb walk.at (length text) (λ e. absurd (omega (arith, short, e))) in
    sym (place_none (paths_in table) (names_of text) (there_is table text walk false is w (sym apart)))

-- whether the path has a line
pub lined : (table : Table) (text : List ℕ) (walk : Walk) (there some : Bool) → IsTable table → IsWalk table text walk → there ≡ (walk.at == length text) → some ≡ is_some (mention_at table walk.place).line → has_line table (names_of text) ≡ (there && some)
lined table text walk there some is w e f = go there e (there_is table text walk there is w e)
  where
    go : (b : Bool) → b ≡ (walk.at == length text) → is_mentioned table (names_of text) ≡ b → has_line table (names_of text) ≡ (b && some)
    go true g h =
        let all : drop walk.at text ≡ [] = drop_of_length-le text (omega (arith, eqb-true walk.at (length text) (sym g))) in
        ap (has_line table) (sym (no_more (path_at table walk.place) (names_of text) (names_of (drop walk.at text)) (walk_end table text walk is w).joins (ap names_of all)))
        ∙ only_at (λ (m : Mention). is_some m.line) table walk.place is.names.once w.stand.place_in ∙ sym f
    go false g h = none_at (λ (m : Mention). is_some m.line) (names_of text) table h

pub fault_is : (table : Table) (text : List ℕ) (walk : Walk) (number slashes : ℕ) (kind : NodeKind) (there some leaf deep : Bool) → IsTable table → IsPathText text → IsWalk table text walk → there ≡ (walk.at == length text) → some ≡ is_some (mention_at table walk.place).line
    → leaf ≡ is_leaf_kind kind → slashes ≡ count_by (λ octet. octet == 47) text → deep ≡ nat_lt MAX_DEPTH slashes → fault_shown number there some walk.under leaf deep ≡ place_fault table number (record { path = names_of text; kind = kind })
fault_is table text walk number slashes kind there some leaf deep is rooted w e f h k d =
    sym (ap (λ (b : Bool). cond b (Some (Twice number)) (cond (list_any (is_want table) (above (names_of text)) || (is_leaf_kind kind && is_mentioned table (names_of text))) (Some (LeafHasKids number)) (cond (nat_lt MAX_DEPTH (length (names_of text))) (Some (Tree number TooDeep)) None))) (lined table text walk there some is w e f)
    ∙ ap (λ (b : Bool). cond (there && some) (Some (Twice number)) (cond (b || (is_leaf_kind kind && is_mentioned table (names_of text))) (Some (LeafHasKids number)) (cond (nat_lt MAX_DEPTH (length (names_of text))) (Some (Tree number TooDeep)) None))) (sym (walk_end table text walk is w).under_is)
    ∙ ap (λ (b : Bool). cond (there && some) (Some (Twice number)) (cond (walk.under || (b && is_mentioned table (names_of text))) (Some (LeafHasKids number)) (cond (nat_lt MAX_DEPTH (length (names_of text))) (Some (Tree number TooDeep)) None))) (sym h)
    ∙ ap (λ (b : Bool). cond (there && some) (Some (Twice number)) (cond (walk.under || (leaf && b)) (Some (LeafHasKids number)) (cond (nat_lt MAX_DEPTH (length (names_of text))) (Some (Tree number TooDeep)) None))) (there_is table text walk there is w e)
    ∙ ap (λ (b : Bool). cond (there && some) (Some (Twice number)) (cond (walk.under || (leaf && there)) (Some (LeafHasKids number)) (cond b (Some (Tree number TooDeep)) None))) (ap (nat_lt MAX_DEPTH) (names_count text rooted ∙ sym k) ∙ sym d))

-- how many nodes there are behind a line
pub nodes_behind : (table : Table) (text : List ℕ) (walk : Walk) (nodes left : ℕ) → IsTable table → IsWalk table text walk → nodes ≡ length table → left ≡ count_by (λ octet. octet == 47) (drop walk.at text) → nodes + left ≡ length (mention_all table (names_of text))
nodes_behind table text walk nodes left is w n l =
    let known = walk_end table text walk is w in
    omega (arith, n, l, ap (λ (t : Table). length t) known.grows, grown_length table (path_at table walk.place) (names_of (drop walk.at text)), names_count (drop walk.at text) (left_text table text walk.place walk.at w.stand))

-- a new place has no line
grown_plain : (table : Table) (front names : Path) (path : Path) → has_line table path ≡ false → has_line (grown table front names) path ≡ false
grown_plain table front [] path none = none
grown_plain table front (name ∷ names) path none =
    grown_plain (table ++ unstated (front ++ name ∷ []) ∷ []) (front ++ name ∷ []) names path
    (list_any-append (λ (m : Mention). is_at path m && is_some m.line) table (unstated (front ++ name ∷ []) ∷ [])
    ∙ ap (λ (b : Bool). b || ((same_path path (front ++ name ∷ []) && false) || false)) none ∙ never (same_path path (front ++ name ∷ [])))
  where
    never : (b : Bool) → (false || ((b && false) || false)) ≡ false
    never true = refl
    never false = refl

no_line : (o : Option ℕ) → is_some o ≡ false → o ≡ None
no_line None e = refl
no_line (Some n) e = absurd (true≢false e)

pub unlined : (table new : Table) (text : List ℕ) (walk : Walk) (place : ℕ) → IsTable new → IsWalk table text walk → IsTable table → has_line table (names_of text) ≡ false → new ≡ grown table (path_at table walk.place) (names_of (drop walk.at text)) → place < length new → path_at new place ≡ names_of text
    → (mention_at new place).line ≡ None
unlined table new text walk place tables w is none new_is l there =
    no_line (mention_at new place).line
    (sym (only_at (λ (m : Mention). is_some m.line) new place tables.names.once l) ∙ ap (has_line new) there ∙ ap (λ (t : Table). has_line t (names_of text)) new_is ∙ grown_plain table (path_at table walk.place) (names_of (drop walk.at text)) (names_of text) none)

-- an entry without a fault
pub no_line_yet : (table : Table) (number : ℕ) (entry : Entry) → place_fault table number entry ≡ None → has_line table entry.path ≡ false
no_line_yet table number entry e = go (has_line table entry.path) refl e
  where
    go : (b : Bool) → has_line table entry.path ≡ b → cond b (Some (Twice number)) (cond (list_any (is_want table) (above entry.path) || (is_leaf_kind entry.kind && is_mentioned table entry.path)) (Some (LeafHasKids number)) (cond (nat_lt MAX_DEPTH (length entry.path)) (Some (Tree number TooDeep)) None)) ≡ None → b ≡ false
    go true f h = cc
    go false f h = refl

pub taken_size : (table : Table) (number nodes wants : ℕ) (entry : Entry) (fault : TreeFault) → place_fault table number entry ≡ None → nodes ≡ length (mention_all table entry.path) → wants ≡ want_count table → size_fault nodes wants entry.kind ≡ Some fault → taken table number entry ≡ Err (Tree number fault)
taken_size table number nodes wants entry fault none n k e =
    ap (λ (o : Option SheetFault). taken_unless (or_else o (option_map (Tree number) (size_fault (length (mention_all table entry.path)) (want_count table) entry.kind))) (noted number entry (mention_all table entry.path))) none
    ∙ ap (λ (o : Option TreeFault). taken_unless (option_map (Tree number) o) (noted number entry (mention_all table entry.path))) (ap (λ (c : ℕ). size_fault c (want_count table) entry.kind) (sym n) ∙ ap (λ (c : ℕ). size_fault nodes c entry.kind) (sym k) ∙ e)

pub taken_whole : (table : Table) (number nodes wants : ℕ) (entry : Entry) → place_fault table number entry ≡ None → nodes ≡ length (mention_all table entry.path) → wants ≡ want_count table → size_fault nodes wants entry.kind ≡ None → taken table number entry ≡ Ok (noted number entry (mention_all table entry.path))
taken_whole table number nodes wants entry none n k e =
    ap (λ (o : Option SheetFault). taken_unless (or_else o (option_map (Tree number) (size_fault (length (mention_all table entry.path)) (want_count table) entry.kind))) (noted number entry (mention_all table entry.path))) none
    ∙ ap (λ (o : Option TreeFault). taken_unless (option_map (Tree number) o) (noted number entry (mention_all table entry.path))) (ap (λ (c : ℕ). size_fault c (want_count table) entry.kind) (sym n) ∙ ap (λ (c : ℕ). size_fault nodes c entry.kind) (sym k) ∙ e)
