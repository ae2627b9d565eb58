use Rattle.std.proofs.Common.{sym, subst}
use Rattle.sg_words.specs.RaceMachine.{MayPut}
use Rattle.sg_hash.specs.steps.Searching.{Searched, PutAt}
use Rattle.sg_hash.proofs.Keys.{looked-key, looked-found, looked-none, looked-put, tried-key, tried-found, tried-put}
use Rattle.sg_hash.proofs.seat.HashPass.probe.Goals as goal

pub returns-then-word-ne0-clause-searched : goal.returns-then-word-ne0-clause-searched
returns-then-word-ne0-clause-searched c = looked-key c.args.seat.now.seat.me.0 c.look_key-word.new.seat.seat.me.0 _ _ c.look_key-word.ensures.event

pub returns-then-word-ne0-clause-found : goal.returns-then-word-ne0-clause-found
returns-then-word-ne0-clause-found c = looked-found c.args.seat.now.seat.me.0 c.look_key-word.new.seat.seat.me.0 _ _ c.if-word-ne0.true c.look_key-word.ensures.event

pub returns-then-word-ne0-clause-put : goal.returns-then-word-ne0-clause-put
returns-then-word-ne0-clause-put c = looked-put c.args.seat.now.seat.me.0 c.look_key-word.new.seat.seat.me.0 _ c.args.key _ c.look_key-word.ensures.event

pub put_key-requires-clause-may : goal.put_key-requires-clause-may
put_key-requires-clause-may c =
    subst (MayPut _ c.args.place c.args.key) (sym (looked-none c.args.seat.now.seat.me.0 c.look_key-word.new.seat.seat.me.0 _ _ c.if-word-ne0.false c.look_key-word.ensures.event)) c.requires.may

pub returns-clause-searched : goal.returns-clause-searched
returns-clause-searched c =
    let e = looked-none c.args.seat.now.seat.me.0 c.look_key-word.new.seat.seat.me.0 _ _ c.if-word-ne0.false c.look_key-word.ensures.event in
    subst (λ v. Searched v c.put_key.new.seat.seat.me.0) e (tried-key c.look_key-word.new.seat.seat.me.0 c.put_key.new.seat.seat.me.0 _ _ _ c.put_key.ensures.event.2)

pub returns-clause-found : goal.returns-clause-found
returns-clause-found c = tried-found c.look_key-word.new.seat.seat.me.0 c.put_key.new.seat.seat.me.0 _ c.args.key c.put_key.ensures.event.0 _ c.put_key.ensures.event.1 c.put_key.ensures.event.2

pub returns-clause-put : goal.returns-clause-put
returns-clause-put c =
    let e = looked-none c.args.seat.now.seat.me.0 c.look_key-word.new.seat.seat.me.0 _ _ c.if-word-ne0.false c.look_key-word.ensures.event in
    subst (λ v. PutAt c.args.key c.put_key.result v c.put_key.new.seat.seat.me.0) e (tried-put c.look_key-word.new.seat.seat.me.0 c.put_key.new.seat.seat.me.0 _ c.args.key c.put_key.ensures.event.0 _ c.put_key.ensures.event.1 c.put_key.ensures.event.2)
