use Rattle.std.proofs.Common.{◌≤◌, List, sym, subst}
use Rattle.sg_layout.specs.declared.shape.Shape.{Shape}
use Rattle.sg_layout.specs.StorageWords.{total_words, most_words}
use Rattle.sg_snapshot.specs.declared.part.Part.{Part}
use Rattle.sg_snapshot.specs.Parts.{frames_of, AreParts}
use Rattle.sg_snapshot.specs.Restoring.{restored}
use Rattle.sg_snapshot.proofs.Fillings.{restored_none, restored_some, shapes_are}
use Rattle.sg_snapshot.proofs.PartsBack.{parts_are}
use Rattle.sg_snapshot.proofs.restoring.restore.Goals as goal

pub returns-in-None-clause-answer : goal.returns-in-None-clause-answer
returns-in-None-clause-answer c = restored_none c.args.layouts.now.list c.as_slice-list.result.now c.args.bytes.now c.as_slice-list.ensures (rw c.in-None.is at c.in_ok-parts_in.ensures)

pub stores_of-requires : goal.stores_of-requires
stores_of-requires c =
    let found = rw c.in-Some.is at c.in_ok-parts_in.ensures in
    record {
      few_words = subst (λ (ss : List Shape). total_words ss ≤ most_words) (sym c.as_slice-list.ensures) c.requires.few_words;
      are = subst (λ (ps : List Part). AreParts (frames_of c.as_slice-list.result.now) ps) (sym c.as_slice.ensures) (parts_are (frames_of c.as_slice-list.result.now) c.args.bytes.now c.in-Some.parts (sym found));
    }

pub returns-in-Some : goal.returns-in-Some
returns-in-Some c =
    let answer = restored_some c.args.layouts.now.list c.as_slice-list.result.now c.args.bytes.now c.in-Some.parts c.as_slice.result.now c.stores_of.result c.as_slice-list.ensures c.as_slice.ensures
    (rw c.in-Some.is at c.in_ok-parts_in.ensures) c.stores_of.ensures in
    record { answer = answer; shapes = shapes_are c.args.layouts.now.list (restored c.args.layouts.now.list c.args.bytes.now) c.stores_of.result answer }
