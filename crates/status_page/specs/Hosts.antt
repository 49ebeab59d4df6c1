-- The hosts under which the page is asked for.
use Rattle.std.specs.Prelude.{ℕ, Bool, false, ◌&&◌, ◌||◌, nat_eq, nat_le, List, length, take, slice_index_or, Option, Some, None, option_map, codes}
use Rattle.std.specs.Str.{bytes_eq}
use Rattle.http.specs.declared.request.Request.{Request}
use Rattle.http.specs.Request.{head_of}
use Rattle.http_header.specs.HeaderMap.{get}
use Rattle.http_uri.specs.Uri.{uri_authority}

-- the text is the host, or the host and a port after a colon
abbrev pub is_at : List ℕ → List ℕ → Bool
is_at text host =
    nat_le (length host) (length text) && bytes_eq (take (length host) text) host
    && (nat_eq (length text) (length host)
    || nat_eq (slice_index_or text (length host) 0) 58)

-- the machine's hosts for itself
abbrev pub is_own : List ℕ → Bool
is_own text =
    is_at text (codes "127.0.0.1") || is_at text (codes "localhost") || is_at text (codes "[::1]")

abbrev is_own_of : Option (List ℕ) → Bool
is_own_of None = false
is_own_of (Some text) = is_own text

-- the host of the target if it has one, otherwise that of the field `Host`
abbrev host_of : Option (List ℕ) → Option (List ℕ) → Option (List ℕ)
host_of (Some authority) field = Some authority
host_of None field = field

abbrev pub is_own_request : Request (List ℕ) → Bool
is_own_request request = is_own_of (host_of (uri_authority (head_of request).uri)
    (option_map (λ value. value.bytes) (get (head_of request).headers (codes "host"))))
