-- The problem that reports an authorizer's refusal.
use Rattle.std.specs.Prelude.{◌≡◌, ◌≢◌, ℕ, List, ◌++◌, None, encode_utf8}
use Rattle.authorizer.specs.declared.fault.AuthorizerFault.{AuthorizerFault}
use Rattle.authorizer.specs.declared.fault.AuthorizerFault.TheVariants as AuthorizerFault
use Rattle.ftp_terms.specs.Letters.{letters_of}
use Rattle.server_config.specs.declared.user_problem.UserProblem.{UserProblem}
use Rattle.server_config.specs.declared.user_problem.UserProblem.TheVariants.{BadLetter, Refused}

-- the first character of a text that is no permission letter: those before it are letters
pub record IsStrayLetter (text : List ℕ) (character : ℕ) : Type 0 where
  pub before : List ℕ
  pub after : List ℕ
  pub is : text ≡ before ++ encode_utf8 character ++ after
  pub letters : letters_of before ≢ None
  pub stray : letters_of (encode_utf8 character) ≡ None

-- the problem is the stray letter if the letters are at fault, and otherwise the fault itself
abbrev pub IsReportedAs : List ℕ → AuthorizerFault → UserProblem → Type 0
IsReportedAs letters fault (BadLetter character) =
    (fault ≡ AuthorizerFault.BadLetter) × IsStrayLetter letters character
IsReportedAs letters fault (Refused reported) =
    (reported ≡ fault) × (fault ≢ AuthorizerFault.BadLetter)
