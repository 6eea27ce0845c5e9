-- The groups of a caller (rules 41 and 43). A reader has to believe this file. Assumes nothing.
use Rattle.std.specs.Prelude.{Bool, ◌&&◌, ◌||◌, cond, List, ℕ, eqb, ltb, leb, length, get_or, replicate}
use Rattle.seq.specs.Search.{any}
use Rattle.seq.specs.Bytes.{put}
use Rattle.layout.specs.Limits.{group_limit}
use Rattle.paths.specs.declared.request.Credentials.{Credentials}

-- the further group at place k counts, and is g
abbrev pub is_further : Credentials → ℕ → ℕ → Bool
is_further who g k = ltb k who.count && eqb (get_or who.groups k 0) g

unfoldable pub in_further : Credentials → ℕ → Bool
in_further who g = any (is_further who g) group_limit

-- rule 43: the caller is in a group, the effective one or any of the further ones
unfoldable pub in_group : Credentials → ℕ → Bool
in_group who g = eqb who.group g || in_further who g

-- rule 41: the credentials of a caller with a list of further groups; one that is too long is not read
unfoldable pub credentials_of : ℕ → ℕ → List ℕ → Credentials
credentials_of user group list = record {
  user = user;
  group = group;
  groups = cond (leb (length list) group_limit) (put (replicate group_limit 0) 0 list) (replicate group_limit 0);
  count = length list;
}
