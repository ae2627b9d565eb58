use Rattle.std.proofs.Common.{◌≡◌, ℕ, ◌++◌, ◌-◌, ◌∙◌, length, take, ap, arith}
use Rattle.std.specs.List.{range_with_len}
use Rattle.sg_pool.specs.Numbers.{PoolNumbers, place_count}
use Rattle.sg_pool.proofs.FreeLists.{stock_further}
use Rattle.sg_pool.proofs.Fronts.{lesser, front_is, front_can, front_enough}
use Rattle.sg_pool.proofs.pool.Pool.stock_front.Goals as goal

pub loop-number-preserved : goal.loop-number-preserved
loop-number-preserved c = record {
  above = omega (arith, c.loop-number.invariant.above);
  listed = stock_further (take c.least-listed.result c.args.self.now.free) c.args.self.now.mark c.loop-number.number c.loop-number.stock c.push.new.self c.loop-number.invariant.above c.loop-number.invariant.listed c.in_ok-push.ensures.ok;
}

pub returns-clause-front : goal.returns-clause-front
returns-clause-front c =
    let now : PoolNumbers = c.args.self.now in
    let listed : ℕ = c.least-listed.result in
    let unused : ℕ = c.least-unused.result in
    let mark : c.self.inside.mark ≡ now.mark = ap (λ (p : PoolNumbers). p.mark) c.self.view_is in
    let all : c.loop-number.number - now.mark ≡ unused = omega (arith, mark) in
    let long : c.len.result ≡ length now.free = c.len.ensures.length ∙ ap (λ (p : PoolNumbers). length p.free) c.self.view_is in
    let many : c.places.result - c.self.inside.mark ≡ place_count now - now.mark = omega (arith, c.places.ensures.places, mark) in
    c.loop-number.invariant.listed ∙ ap (λ n. take listed now.free ++ range_with_len now.mark n) all
    ∙ front_is now.free now.mark (place_count now - now.mark) c.args.most listed unused
    (c.least-listed.ensures.value ∙ ap (λ n. lesser c.args.most n) long) (c.least-unused.ensures.value ∙ ap (λ n. lesser (c.args.most - listed) n) many)

pub returns-clause-can : goal.returns-clause-can
returns-clause-can c = front_can c.args.self.now c.args.most c.loop-number.stock c.places.ensures.parted (returns-clause-front c)

pub returns-clause-enough : goal.returns-clause-enough
returns-clause-enough c = front_enough c.args.self.now c.args.most c.loop-number.stock c.places.ensures.parted (returns-clause-front c)
