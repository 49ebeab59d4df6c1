-- The answers of the routes.
use Rattle.std.specs.Prelude.{ℕ, Bool, true, false, ◌||◌, if◌then◌else◌, List, [], ◌∷◌, ◌++◌, Option, Some, None, codes}
use Rattle.std.specs.Str.{bytes_eq}
use Rattle.httpdate.specs.Date.{date_text}
use Rattle.httpdate.specs.declared.date.HttpDate.{HttpDate}
use Rattle.http.specs.declared.request.Request.{Request}
use Rattle.http.specs.Request.{head_of}
use Rattle.http_uri.specs.Uri.{uri_path}
use Rattle.http1.specs.Fields.{Header}
use Rattle.http_server.specs.declared.response.Response.{Response}
use Rattle.http_server.specs.Response.{IsResponse}
use Rattle.server_status.specs.StatusData.{IsStatusText}
use Rattle.server_status.specs.declared.status.Status.{Status}
use Rattle.status_page.specs.Hosts.{is_own_request}
use Rattle.status_page.specs.Metrics.{metrics}
use Rattle.status_page.specs.declared.page.TheConstants.{PAGE, POLICY}
use Rattle.status_page.specs.declared.routes.Route.{Route}
use Rattle.status_page.specs.declared.routes.Route.TheVariants.{Page, Json, Metrics}

-- the route of a path
abbrev pub route_of : List ℕ → Option Route
route_of path =
    if bytes_eq path (codes "/") then Some Page
    else if bytes_eq path (codes "/status.json") then Some Json
    else if bytes_eq path (codes "/metrics") then Some Metrics
    else None

-- the methods that are answered
abbrev pub is_read : List ℕ → Bool
is_read method = bytes_eq method (codes "GET") || bytes_eq method (codes "HEAD")

-- a status that is shown at a date
pub record Shown : Type 0 where
  pub status : Status
  pub date : HttpDate

abbrev pub shown_at : Status → HttpDate → Shown
shown_at status date = record { status = status; date = date }

-- the fields of every answer at a date (RFC 9110, 6.6.1), the last of them its type
abbrev pub fields_with : HttpDate → List ℕ → List Header
fields_with date type =
    (codes "connection", codes "close") ∷ (codes "date", date_text date)
    ∷ (codes "cache-control", codes "no-store")
    ∷ (codes "x-content-type-options", codes "nosniff")
    ∷ (codes "content-security-policy", POLICY.now)
    ∷ (codes "cross-origin-resource-policy", codes "same-origin")
    ∷ (codes "content-type", type) ∷ []

-- a status, with the fields of a type, and a content
abbrev pub IsTyped : HttpDate → ℕ → List ℕ → List ℕ → Response → Type 0
IsTyped date code type content response =
    IsResponse code (fields_with date type) content response

abbrev pub plain_type : List ℕ
plain_type = codes "text/plain; charset=utf-8"

-- the answer of a route, by what is shown
abbrev pub IsShown : Shown → Route → Response → Type 0
IsShown shown Page response =
    IsTyped shown.date 200 (codes "text/html; charset=utf-8") PAGE.now response
IsShown shown Json response =
    (text : List ℕ) × IsStatusText shown.status text
    × IsTyped shown.date 200 (codes "application/json") text response
IsShown shown Metrics response =
    IsTyped shown.date 200 (codes "text/plain; version=0.0.4; charset=utf-8")
    (metrics shown.status) response

-- the answer for a route, if there is one, by whether the method is answered
abbrev pub IsRouted : Shown → Option Route → Bool → Response → Type 0
IsRouted shown None read response =
    IsTyped shown.date 404 plain_type (codes "not found\n") response
IsRouted shown (Some route) false response =
    IsResponse 405 (fields_with shown.date plain_type ++ (codes "allow", codes "GET, HEAD") ∷ [])
    (codes "method not allowed\n") response
IsRouted shown (Some route) true response = IsShown shown route response

-- the answer by whether the request is for a host of this machine for itself: whoever reaches the
-- page under another name is shown nothing
abbrev pub IsHosted : Shown → Bool → Option Route → Bool → Response → Type 0
IsHosted shown false route read response =
    IsTyped shown.date 421 plain_type (codes "misdirected request\n") response
IsHosted shown true route read response = IsRouted shown route read response

-- the answer to a request, by its host, its path and its method
abbrev pub Answers : Shown → Request (List ℕ) → Response → Type 0
Answers shown request response =
    IsHosted shown (is_own_request request) (route_of (uri_path (head_of request).uri))
    (is_read (head_of request).method) response
