use Rattle.std.proofs.Common.{inl, inr, refl}
use Rattle.authorizer.specs.Stored.{user_of}
use Rattle.authorizer.proofs.Decides.{one_letters}
use Rattle.authorizer.proofs.allowed.letters_at.Goals as goal

pub returns-in-Some : goal.returns-in-Some
returns-in-Some g c = record { letters = one_letters (user_of c.args.account.now) c.args.path.now _ (inl c.in-Some.ensures.deepest) }

pub returns-in-None : goal.returns-in-None
returns-in-None g c = record { letters = one_letters (user_of c.args.account.now) c.args.path.now _ (inr (c.in-None.ensures.deepest, refl)) }
