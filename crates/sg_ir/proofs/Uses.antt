-- What other crates use of access code: folds one layer down, runs and judgements of longer blocks, what emitting adds, that equal
-- operations are equal, spans of words, and runs along chains.
pub use Rattle.sg_ir.proofs.AskedRuns.{well_typed_asks}
pub use Rattle.sg_ir.proofs.Folds.{fold-Const, fold-Var, fold-Set, fold-Bin, fold-Un, fold-Mulq, fold-Root, fold-Check, fold-Extract, fold-Offset, fold-Child, fold-HashChild, fold-MaskBit, fold-DynCell, fold-ReadCell, fold-IsActive, fold-OwnRead, fold-OwnWrite, fold-Acc, fold-Want, fold-If, fold-For}
pub use Rattle.sg_ir.proofs.Equations.{does-Const, does-Var, does-Set, does-Bin, does-Un, does-Mulq, does-Root, does-Check, does-Extract, does-Offset, does-Child, does-HashChild, does-MaskBit, does-DynCell, does-ReadCell, does-IsActive, does-OwnRead, does-OwnWrite, does-Acc, does-Want, does-If, does-For, runs-more, runs-append}
pub use Rattle.sg_ir.proofs.Judging.{judges-Const, judges-Var, judges-Set, judges-Bin, judges-Un, judges-Mulq, judges-Root, judges-Check, judges-Extract, judges-Offset, judges-Child, judges-HashChild, judges-MaskBit, judges-DynCell, judges-ReadCell, judges-IsActive, judges-OwnRead, judges-OwnWrite, judges-Acc, judges-Want, judges-If, judges-For, judged-more, settings-append, set_regs-append, set_places-append, set_vars-append, uses-append}
pub use Rattle.sg_ir.proofs.Emitting.{put-same, put-other, computes, reaches, fetches}
pub use Rattle.sg_ir.proofs.Stepping.{does-step}
pub use Rattle.sg_ir.proofs.Extending.{extends-same, extends-trans, quiet-trans, reaches-then, computes-then, words-kept, all_named}
pub use Rattle.sg_ir.proofs.Adding.{range-append, goes_on-same, goes_on-trans, goes_on-one, final-before, final-type, adds-reg, adds-place, adds-same, adds-trans, can_read-kept}
pub use Rattle.sg_ir.proofs.AddingPlaces.{steps-same, steps-trans}
pub use Rattle.sg_ir.proofs.Leading.{inside-checks, count-word, led-none, led-whole, walk-leads}
pub use Rattle.sg_ir.proofs.Placing.{whole_slot}
pub use Rattle.sg_ir.proofs.Cases.{by_inst}
pub use Rattle.sg_ir.proofs.SameOps.{op_exact, step_exact}
pub use Rattle.sg_ir.proofs.SpanWords.{all_one, lies_whole, bin_lies, range_lies, op_lies}
pub use Rattle.sg_ir.proofs.SpanSound.{entered, left, counted, sound}
pub use Rattle.sg_ir.proofs.SpanStart.{values_low, first_fits}
pub use Rattle.sg_ir.proofs.Chained.{largest, depth_step, depth, goes-runs}
pub use Rattle.sg_ir.proofs.Trailing.{trail-Const, trail-Var, trail-Set, trail-Bin, trail-Un, trail-Mulq, trail-Root, trail-Check, trail-Extract, trail-Offset, trail-Child, trail-HashChild, trail-MaskBit, trail-DynCell, trail-ReadCell, trail-IsActive, trail-OwnRead, trail-OwnWrite, trail-Acc, trail-Want, trail-If, trail-For, trail-step, asked-more, ways-more, asked-row, asked-code}
pub use Rattle.sg_ir.proofs.SameStates.{IsGood, same_iteration}
pub use Rattle.sg_ir.proofs.FormsAlike.{put_same, put_all, mapped, op_same, step_same, root_same, act_same, reg_same, scoped_same, forms_alike}
