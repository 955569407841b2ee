-- What is printed of an error.
use Rattle.std.specs.Prelude.{ℕ, List, ◌++◌, codes, decimal}
use Rattle.resp.specs.declared.fault.Fault.{Fault}
use Rattle.resp.specs.declared.fault.Fault.TheVariants.{Incomplete, Malformed, TooDeep}
use Rattle.resp.specs.declared.fault.ReadError.{ReadError}
use Rattle.resp.specs.declared.fault.ReadError.TheVariants as errors
use Rattle.resp.specs.declared.fault.RequestFault.{RequestFault}
use Rattle.resp.specs.declared.fault.RequestFault.TheVariants as faults
use Rattle.resp.specs.declared.fault.RequestError.{RequestError}
use Rattle.resp.specs.declared.fault.RequestError.TheVariants as requests
use Rattle.resp.specs.declared.fault.WriteError.{WriteError}
use Rattle.resp.specs.declared.fault.WriteError.TheVariants as write

abbrev pub fault_text : Fault → List ℕ
fault_text Incomplete = codes "the bytes end before the message does"
fault_text Malformed = codes "the bytes begin no message"
fault_text TooDeep = codes "arrays stand too deep in arrays"

abbrev pub read_error_text : ReadError → List ℕ
read_error_text errors.Memory = codes "out of memory"
read_error_text (errors.Fault fault) = fault_text fault

abbrev pub request_fault_text : RequestFault → List ℕ
request_fault_text faults.Incomplete = codes "the bytes end before the request does"
request_fault_text (faults.Malformed index) =
    codes "the byte " ++ (decimal index ++ codes " stands in no request")

abbrev pub request_error_text : RequestError → List ℕ
request_error_text requests.Memory = codes "out of memory"
request_error_text (requests.Fault fault) = request_fault_text fault

abbrev pub write_error_text : WriteError → List ℕ
write_error_text write.Memory = codes "out of memory"
write_error_text write.NoForm = codes "the value has no form in this protocol"
