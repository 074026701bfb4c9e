mod Later
