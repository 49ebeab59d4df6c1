-- The octets of a `Blank` are read as a `statx`: both are laid out alike, and the machine reads no name of a struct.
use Rattle.std.proofs.Common.{[], ◌∷◌, refl}
use Rattle.std.proofs.raw_atomic.Walks.{proved}
use base.Fraction.{full_share}
use base.Fml.{fat}
use mir.Raw.{raw as raw_ty}
use mir.Val.{Val}
use contract.Running.{tables}
use types.Kit.{‵, raw, at_ret, ◌$◌, ◌∵◌, !, qed, done, drop, use1, join, suffices, group}
use types.Run.{enter, of_opd, addr, from, load, look_raw, stop, first, blocks, exec, returns}
use types.ByLocal.{alloc_all, pass_all, free_all, look_at, get, through, sets, sets_last, take_at, give_at, env}
use denote.Exit.{yes}
use denote.Laws.{Is}
use denote.Signature.{plain}
use denote.Steps.{nothing, owned}
use denote.Struct.Laws.{lawful, makes}
use denote.Triple.Entry.{on_entry}
use denote.Triple.Walked.{Stays, walk_of, stay_dropped, Goes-dropped, ends_at}
use Rattle.folder_store.specs.declared.statx.Blank.{Blank}
use Rattle.folder_store.specs.declared.statx.NoTime.{NoTime}
use Rattle.folder_store.specs.contracts.statx.Blank as blank
use Rattle.folder_store.proofs.statx.Blank.TheLaws as blank_laws
use Rattle.libc.specs.declared.types.statx.{statx}
use Rattle.libc.specs.declared.types.statx_timestamp.{statx_timestamp}
use Rattle.libc.specs.contracts.types.statx as answer
use Rattle.libc.proofs.types.statx.TheLaws as answer_laws
use Rattle.folder_store.specs.contracts.statx.as_statx as f
use Rattle.folder_store.proofs.statx.as_statx.Statement.{statement}
use Rattle.folder_store.proofs.statx.as_statx.Code as code

abbrev time_of : NoTime → statx_timestamp
time_of time = record { tv_sec = time.seconds; tv_nsec = time.nanoseconds; __reserved = time.spare }

abbrev answer_of : Blank → statx
answer_of x = record {
  stx_mask = x.mask;
  stx_blksize = x.block;
  stx_attributes = x.attributes;
  stx_nlink = x.links;
  stx_uid = x.user;
  stx_gid = x.group;
  stx_mode = x.mode;
  __spare0 = x.spare;
  stx_ino = x.number;
  stx_size = x.size;
  stx_blocks = x.blocks;
  stx_attributes_mask = x.attributes_mask;
  stx_atime = time_of x.accessed;
  stx_btime = time_of x.created;
  stx_ctime = time_of x.changed;
  stx_mtime = time_of x.modified;
  stx_rdev_major = x.special_major;
  stx_rdev_minor = x.special_minor;
  stx_dev_major = x.device_major;
  stx_dev_minor = x.device_minor;
  stx_mnt_id = x.mount;
  stx_dio_mem_align = x.memory_align;
  stx_dio_offset_align = x.offset_align;
  __spare3 = x.rest;
}

abbrev stayed : Stays f.ended.signature.params f.ended.kept
stayed = (stay_dropped _ yes, tt)

pub as_statx_spec : {M : Type 1} → statement M
as_statx_spec 𝓤 𝓛 𝓜 𝓡 wired =
    let c = f.clauses 𝓛 𝓜.mem 𝓡.returns in let W = walk_of 𝓛 f.ended stayed c in let 𝓣 = tables 𝓤 𝓛.H 𝓜 𝓡 𝓡.env in
    proved 𝓛 f.ended stayed c 𝓜 𝓡 (Goes-dropped 𝓛 0 (plain (λ _. blank.the_row)) yes (λ κs x w. refl), tt)
    f.Key.name code.function (code.unfolded 𝓤 𝓛.H 𝓜 𝓡 wired)
    (λ κs. ((λ x. blank_laws.lowered x ∷ []), tt)) (λ κs. (blank_laws.lowers.val_is, tt)) (λ κs qs bounds a _ are.
    let v : Val = blank_laws.lowered a.0 in
    let y : W.Ghost = ((κs, qs, bounds, a, (v ∷ [], tt)), tt) in
    let is : Is answer.the_row (answer_of a.0) (v ∷ []) = are.0 in
    let typed = (lawful blank.the_type blank_laws.the_laws 𝓛).typed a.0 (v ∷ []) are.0 in
    let read = (lawful answer.the_type answer_laws.the_laws 𝓛).typed (answer_of a.0) (v ∷ []) is in
    qed 𝓛 (raw (on_entry 𝓛 f.signature κs qs a y.0.4) ∷ raw ((c κs a).requires tt) ∷ []) ∵ drop ! $ drop ! $
    enter ! _ _ _ _ _ $ alloc_all ! (λ l. pass_all ! refl (typed.0, tt) $
    sets ! (of_opd ! (get ! refl)) refl typed.0 $
    sets ! (addr ! (from ! (stop !))) refl (tt, tt) $
    first ! $ blocks ! $
    take_at ! 2 $ use1 𝓛 (‵ (fat full_share (raw_ty blank_laws.mir) _ 0 v)) (𝓛.laws.at_raw full_share blank_laws.mir _ 0 v) $
    sets_last ! (of_opd ! (load ! (through ! refl (stop !)) (look_raw ! 0 refl))) refl read.0 $
    use1 𝓛 (‵ (fat full_share blank_laws.mir _ 0 v)) (𝓛.laws.raw_at full_share blank_laws.mir _ 0 v) $ give_at ! 2 $
    exec ! 𝓣.C 𝓣.Λ (env code.Mir.locals l) code.Mir.t-4 (at_ret _ (W.post y)) $
    sets ! (of_opd ! (get ! refl)) refl read.0 $
    returns ! (look_at ! 0 refl) $ free_all ! refl $
    suffices ! _ (ends_at 𝓛 f.ended stayed c y v (answer_of a.0) (tt, tt) (tt, tt)) $
    nothing ! $ owned ! answer.the_row _ (makes answer.the_type answer_laws.the_plain 𝓛) (answer_of a.0) _ is $
    nothing ! $ nothing ! $ join ! $ nothing ! $ group ! 3 $ done !))
