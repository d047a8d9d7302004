-- The calls that the demands are claimed of: those on a session, which the contracts of session_requests say of the code, and those for
-- C, of which btfdump_c says it. Only the names of these functions matter here: what they do is what the theorems say.
use Rattle.std.specs.Prelude.{ℕ, ◌/◌, ◌%◌, true, List, leb, length}
use Rattle.spec_session.specs.declared.session.Session.{Session}
use Rattle.spec_session.specs.session.Answers.{number_of, value_of}
use Rattle.spec_session.specs.session.Turns.{Call}
use Rattle.spec_session.specs.calls.Calls.{open_call, type_call, types_call}
use Rattle.spec_session.specs.calls.Lists.{list_call}
use Rattle.session_record.specs.record_words.Words.{decoded}
use Rattle.spec_session.specs.metered.Within.{type_call_within, types_call_within}
use Rattle.spec_session.specs.metered.Lists.{list_call_within}
use Rattle.spec_session.specs.origin_calls.Bytes.{CauseCall, type_causes, types_causes}
use Rattle.spec_session.specs.origin_calls.Several.{list_causes_call}
use Rattle.spec_c_calls.specs.Exports.{Export, open_export, type_export, types_export, list_export}
use Rattle.spec_c_calls.specs.Cuts.{cut_export}
use Rattle.claims.specs.Calls.{Calls, ids_in}
use Rattle.session_cut.specs.call.Calls.{cut_call}
use Rattle.claims.specs.Request12_line_origins.{Listing, Lending}
use Rattle.claims.specs.Request14_cut.{Cutting}
use Rattle.claims.specs.Carried.{Aid, ceiling, list, Carrying}

-- on a session
abbrev pub on_session : Calls Session Call
on_session = record {
  fits = λ S. true;
  opening = λ S s pointer modes work text. open_call S s work text pointer modes;
  request = λ c s text id. type_call c.session s c.work text id;
  request_all = λ c s text. types_call c.session s c.work text;
  request_list = λ c s text ids. list_call c.session s c.work text (ids_in ids);
  number = λ c. number_of c.answer;
  value = λ c. value_of c.answer;
  leaves = λ c. c.session;
  work = λ c. c.work;
  text = λ c. c.text;
  len = λ c. c.session.text_len;
  is_open = λ c. c.session.«open»;
}

-- "the counted visits [..] are kept in the record"
abbrev pub session_visits : Call → ℕ
session_visits c = c.session.visits

-- on a session, with a ceiling or a list
abbrev pub one_carrying : Aid → Call → List ℕ → List ℕ → ℕ → Call
one_carrying (ceiling k) c s text id = (type_call_within k c.session s c.work text id 0).call
one_carrying (list l) c s text id = (type_causes c.session s c.work text id l).call

abbrev pub all_carrying : Aid → Call → List ℕ → List ℕ → Call
all_carrying (ceiling k) c s text = (types_call_within k c.session s c.work text).call
all_carrying (list l) c s text = (types_causes c.session s c.work text l).call

abbrev pub list_carrying : Aid → Call → List ℕ → List ℕ → List ℕ → Call
list_carrying (ceiling k) c s text ids = (list_call_within k c.session s c.work text (ids_in ids)).call
list_carrying (list l) c s text ids = (list_causes_call c.session s c.work text (ids_in ids) l).call

abbrev pub session_carrying : Carrying Call
session_carrying = record { request = one_carrying; request_all = all_carrying; request_list = list_carrying }

-- on a session, with a list and its entries afterwards
abbrev pub listing_of : CauseCall → Listing Call
listing_of d = record { call = d.call; count = d.count; list = d.list }

abbrev pub session_lending : Lending Call
session_lending = record {
  request = λ c s text id l. listing_of (type_causes c.session s c.work text id l);
  request_all = λ c s text l. listing_of (types_causes c.session s c.work text l);
  request_list = λ c s text ids l. listing_of (list_causes_call c.session s c.work text (ids_in ids) l);
}

-- the call for a section cut down, on a session
abbrev pub session_cutting : Cutting Call
session_cutting = record {
  number = λ c s given out. number_of (cut_call c.session s given out).answer;
  value = λ c s given out. value_of (cut_call c.session s given out).answer;
  out = λ c s given out. (cut_call c.session s given out).out;
}

-- for C: "there the record too crosses as bytes", 128 of them or more; number and value are the upper and the lower half of the result
abbrev pub for_c : Calls (List ℕ) Export
for_c = record {
  fits = λ r. leb 128 (length r);
  opening = λ r s pointer modes work text. open_export r s pointer modes work text;
  request = λ e s text id. type_export e.bytes s e.work text id;
  request_all = λ e s text. types_export e.bytes s e.work text;
  request_list = λ e s text ids. list_export e.bytes s e.work text (ids_in ids);
  number = λ e. e.result / 4294967296;
  value = λ e. e.result % 4294967296;
  leaves = λ e. e.bytes;
  work = λ e. e.work;
  text = λ e. e.text;
  len = λ e. (decoded e.bytes).text_len;
  is_open = λ e. (decoded e.bytes).«open»;
}

abbrev pub visits_for_c : Export → ℕ
visits_for_c e = (decoded e.bytes).visits

abbrev pub cutting_for_c : Cutting Export
cutting_for_c = record {
  number = λ e s given out. (cut_export e.bytes s given out).result / 4294967296;
  value = λ e s given out. (cut_export e.bytes s given out).result % 4294967296;
  out = λ e s given out. (cut_export e.bytes s given out).out;
}
