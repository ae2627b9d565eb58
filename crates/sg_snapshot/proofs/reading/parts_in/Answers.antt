use Rattle.std.proofs.Common.{◌≡◌, ℕ, List, Option, ap, ◌∙◌}
use Rattle.std.proofs.lemmas.Result.{IfOk-weaker}
use Rattle.sg_words.specs.Options.{◌>>=◌}
use Rattle.sg_snapshot.specs.declared.part.Part.{Part}
use Rattle.sg_snapshot.specs.Parts.{frames_of, counted_parts, parts_in}
use Rattle.sg_snapshot.proofs.Fronts.{unmarked, marked}
use Rattle.sg_snapshot.proofs.reading.parts_in.Goals as goal

pub returns-then-not-starts_with : goal.returns-then-not-starts_with
returns-then-not-starts_with c = unmarked (frames_of c.args.layouts.now) c.args.bytes.now c.if-not-starts_with.ensures.value

pub returns-in-None : goal.returns-in-None
returns-in-None c =
    let frames = frames_of c.args.layouts.now in
    let found = rw c.in-None.is at c.in_ok-numbers_of.ensures in
    ap (λ (o : Option (List ℕ)). o >>= counted_parts frames) found ∙ marked frames c.args.bytes.now c.split_at.result.1.now c.if-not-starts_with.ensures.value c.split_at.ensures.back

pub returns-in-Some : goal.returns-in-Some
returns-in-Some c =
    let frames = frames_of c.args.layouts.now in
    let bytes = c.args.bytes.now in
    let found = rw c.in-Some.is at c.in_ok-numbers_of.ensures in
    IfOk-weaker c.counted_parts.result (λ (parts : Option (List Part)). parts ≡ counted_parts frames c.as_slice.result.now) (λ (parts : Option (List Part)). parts ≡ parts_in frames bytes)
    (λ parts is. is ∙ ap (counted_parts frames) c.as_slice.ensures ∙ ap (λ (o : Option (List ℕ)). o >>= counted_parts frames) found
    ∙ marked frames bytes c.split_at.result.1.now c.if-not-starts_with.ensures.value c.split_at.ensures.back) c.counted_parts.ensures
