use Rattle.std.proofs.Common.{◌≡◌, ◌++◌, drop, length}
use Rattle.std.specs.Prelude.{All, IsTrue}
use Rattle.sg_layout.specs.Axes.{bounds_of_shape}
use Rattle.sg_flat.specs.Words.{are_words}
use Rattle.sg_flat.specs.Kernel.{fields_after}
use Rattle.sg_flat.proofs.landing.next_fields.Given as goal

abbrev pub invariant-loop-place : goal.invariant-loop-place
invariant-loop-place l = record {
  meaning : l.fields ++ fields_after (bounds_of_shape l.layout) l.number (length l.yielded) (drop (length l.yielded) l.layout.fields) (drop (length l.yielded) l.flat.fields) l.effects.turns
      ≡ fields_after (bounds_of_shape l.layout) l.number 0 l.layout.fields l.flat.fields l.effects.turns;
  in_range : All (λ words. IsTrue (are_words words)) l.fields;
}
