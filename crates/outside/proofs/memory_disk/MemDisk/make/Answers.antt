use Rattle.std.proofs.Common.{◌≡◌, ◌++◌, ◌*◌, ◌<◌, ◌^◌, length, [], ◌∷◌, true, false, refl, inl, arith, rules}
use Rattle.outside.proofs.MadeCalls.{calls_none, calls_failed, calls_done, each_made, last_made}
use Rattle.outside.proofs.memory_disk.MemDisk.make.Goals as goal

pub returns-then-number-ge-MAX_CALLS-clause-goes : goal.returns-then-number-ge-MAX_CALLS-clause-goes
returns-then-number-ge-MAX_CALLS-clause-goes c =
    calls_none _ _ _ _ _ c.refuse.ensures.first (search rules) (omega arith) c.refuse.ensures.later c.refuse.ensures.rose

pub returns-then-is_err-clause-goes : goal.returns-then-is_err-clause-goes
returns-then-is_err-clause-goes c =
    calls_none _ _ _ _ _ c.refuse-then-is_err.ensures.first (search rules) (omega arith) c.refuse-then-is_err.ensures.later c.refuse-then-is_err.ensures.rose

pub returns-then-failed-clause-goes : goal.returns-then-failed-clause-goes
returns-then-failed-clause-goes c =
    let calls : c.refuse-then-failed.new.self.calls.items ≡ c.args.self.now.calls.items ++ record { call = c.args.call; failed = true } ∷ [] = search rules in
    calls_failed c.args.call true _ _ c.refuse-then-failed.ensures.first calls _ _ refl c.refuse-then-failed.ensures.later c.refuse-then-failed.ensures.rose

pub returns-then-failed-clause-recorded : goal.returns-then-failed-clause-recorded
returns-then-failed-clause-recorded c = record { done = tt; failed = inl (search rules, (c.args.call, refl, search rules)) }

pub returns-then-failed-clause-each : goal.returns-then-failed-clause-each
returns-then-failed-clause-each c = each_made c.args.call true _ _ c.refuse-then-failed.ensures.first (search rules)

pub returns-in-Some-clause-goes : goal.returns-in-Some-clause-goes
returns-in-Some-clause-goes c =
    let calls : c.push.new.self.items ≡ c.args.self.now.calls.items ++ record { call = c.args.call; failed = false } ∷ [] = search rules in
    let counted : 2 * length c.push.new.self.items < 2 ^ 64 = search rules in
    calls_done c.args.call false _ _ refl calls _ _ refl refl counted

pub returns-in-Some-clause-each : goal.returns-in-Some-clause-each
returns-in-Some-clause-each c = each_made c.args.call false _ _ refl (search rules)

pub returns-in-Some-clause-last : goal.returns-in-Some-clause-last
returns-in-Some-clause-last c =
    let calls : c.push.new.self.items ≡ c.args.self.now.calls.items ++ record { call = c.args.call; failed = false } ∷ [] = search rules in
    last_made c.args.call false _ _ refl calls c.args.self.now.bytes.items c.args.self.now.replayed

pub returns-in_default-clause-goes : goal.returns-in_default-clause-goes
returns-in_default-clause-goes c =
    let calls : c.push.new.self.items ≡ c.args.self.now.calls.items ++ record { call = c.args.call; failed = false } ∷ [] = search rules in
    let counted : 2 * length c.push.new.self.items < 2 ^ 64 = search rules in
    calls_done c.args.call false _ _ refl calls _ _ refl refl counted

pub returns-in_default-clause-each : goal.returns-in_default-clause-each
returns-in_default-clause-each c = each_made c.args.call false _ _ refl (search rules)

pub returns-in_default-clause-last : goal.returns-in_default-clause-last
returns-in_default-clause-last c =
    let calls : c.push.new.self.items ≡ c.args.self.now.calls.items ++ record { call = c.args.call; failed = false } ∷ [] = search rules in
    last_made c.args.call false _ _ refl calls c.args.self.now.bytes.items c.args.self.now.replayed
