use Rattle.std.proofs.Common.{List, sym, ap, subst}
use Rattle.std.specs.List.{AllZip}
use Rattle.sg_store.specs.declared.store.Stores.{Stores}
use Rattle.sg_store.specs.Freeing.{IsCleared, ChangesStore}
use Rattle.sg_store.specs.Links.{GrowsLinks}
use Rattle.sg_store.specs.StoreWords.{StoreWords}
use Rattle.sg_session.specs.Commands.{cleared_layout, layout_made}
use Rattle.sg_session.specs.Performed.{LeavesMeaning, HasState}
use Rattle.sg_session.proofs.Viewing.{has_own_store}
use Rattle.sg_session.proofs.LinksKept.{links_itself, one_shrunk}
use Rattle.sg_session.proofs.Changing.{HasChanged, change_left, change_stands}
use Rattle.sg_session.proofs.freeing.clear.Goals as goal

pub clear-requires : goal.clear-requires
clear-requires c = has_own_store c.args.compiled.now.layouts c.args.stores.now.list c.args.layout c.requires.stand c.requires.layout

changes : (c : goal.After-no_text) → ChangesStore IsCleared c.args.stores.now.list c.clear.new.self.list c.args.layout
changes c = c.in_ok-clear.ensures.cleared

changed : (c : goal.After-no_text) → HasChanged cleared_layout (changes c).store (changes c).next
changed c = record { shape = (changes c).change.same_shape; stands = λ flat stands. (changes c).change.stands }

pub returns-clause-performed : goal.returns-clause-performed
returns-clause-performed c = λ state stand.
    let layouts = c.args.compiled.now.layouts in
    let stores = c.args.stores.now.list in
    subst (λ (ss : List StoreWords). LeavesMeaning layouts ss c.no_text.result.bytes (layout_made cleared_layout layouts state c.args.layout)) (sym (changes c).now_is)
    (change_left cleared_layout layouts stores state c.args.layout (changes c).store (changes c).next c.no_text.result.bytes c.no_text.ensures stand (changes c).was (changed c))

pub returns-clause-stand : goal.returns-clause-stand
returns-clause-stand c =
    let layouts = c.args.compiled.now.layouts in
    subst (λ (ss : List StoreWords). HasState layouts ss) (sym (changes c).now_is)
    (change_stands cleared_layout layouts c.args.stores.now.list c.args.layout (changes c).store (changes c).next c.requires.stand (changes c).was (changed c))

pub returns-clause-links : goal.returns-clause-links
returns-clause-links c =
    subst (λ (ss : List StoreWords). AllZip GrowsLinks ss c.args.stores.now.list) (sym (changes c).now_is)
    (one_shrunk c.args.stores.now.list c.args.layout (changes c).store (changes c).next (changes c).was (changes c).change.links)

pub returns-in_err-clear-clause-stand : goal.returns-in_err-clear-clause-stand
returns-in_err-clear-clause-stand c =
    subst (λ (ss : List StoreWords). HasState c.args.compiled.now.layouts ss) (sym (ap (λ (s : Stores). s.list) c.in_err-clear.ensures.stays)) c.requires.stand

pub returns-in_err-clear-clause-links : goal.returns-in_err-clear-clause-links
returns-in_err-clear-clause-links c =
    subst (λ (ss : List StoreWords). AllZip GrowsLinks ss c.args.stores.now.list) (sym (ap (λ (s : Stores). s.list) c.in_err-clear.ensures.stays)) (links_itself c.args.stores.now.list)
